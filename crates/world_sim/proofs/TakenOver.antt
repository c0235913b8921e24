-- A run of acts in which a static member goes away, another client takes its place over, and, once it was removed, joins again
-- under its former id.
use Rattle.std.proofs.Common.{◌≡◌, ℕ, ◌==◌, true, false, cond, not, ◌&&◌, ◌||◌, [], ◌∷◌, length, nat_lt, is_some, Option, Some, None, refl, sym, ap, subst, ◌∙◌, arith}
use Rattle.std.specs.FinMap as finite
use Rattle.std.specs.Option.{option_and_then, option_map, option_map_or}
use Rattle.std.specs.Ordering.{eq_by_cmp}
use Rattle.std.proofs.lemmas.Bool.{or_right}
use Rattle.group_types.specs.declared.assignor_name.AssignorName.TheVariants.{Range}
use Rattle.group_types.specs.Limits.{MOST_GROUPS}
use Rattle.group_types.specs.Text.{Text, text_cmp}
use Rattle.group_types.specs.AssignorName.{assignor_text}
use Rattle.group_types.specs.Sets.{has, nothing, union}
use Rattle.group_types.specs.Partition.{partition_cmp}
use Rattle.group_types.specs.Group.{Group, Grants, Record, held}
use Rattle.group_types.specs.Tick.{ticked}
use Rattle.group_types.specs.HeartbeatStep as group
use Rattle.group_types.proofs.GrantLemmas.{has-held}
use Rattle.group_types.proofs.Lookups.{text_ties}
use Rattle.group_types.proofs.MadeIds.{length-made_id}
use Rattle.group_types.proofs.Orders.{text_cmp_total, partition_cmp_total}
use Rattle.group_types.proofs.SetLemmas.{has-of_list, has-union}
use Rattle.group_core.proofs.Single.{get-inserted}
use Rattle.coord_node.specs.Coordinator.{Coordinator, opening}
use Rattle.coord_node.specs.Steps.{HeartbeatAt, Makes, all_ticked, has_room, removed_from_all, with_group}
use Rattle.member_core.specs.Settings.{Settings}
use Rattle.member_core.specs.Client.{Client, new_client, state_of}
use Rattle.member_core.specs.Asking.{Beat, GoAway, Join, Short, after_asking}
use Rattle.member_core.specs.Taking.{Accepts, Fences, News, after_news}
use Rattle.world_sim.specs.World.{World, granted, new_world, with_coordinator}
use Rattle.world_sim.specs.Acts.{Asks, Deliver, Take, Passes, Sees, Is, IsDone, IsRemoved, IsReplied, IsSent, ActStep, is_unremembered}
use Rattle.world_sim.specs.Reached.{IsReached}
use Rattle.world_sim.specs.Examples.{Holder}
use Rattle.world_sim.specs.StaticExamples.{SomeStaticMemberIsTakenOver, record_in}
use Rattle.world_sim.proofs.Exchanges.{answering, asking, asks, delivers, sent_in, takes, taking}
use Rattle.world_sim.proofs.Groups.{get_ticked}
use Rattle.world_sim.proofs.Newcomers.{GROUP}
use Rattle.world_sim.proofs.Reaching.{reached_by}
use Rattle.world_sim.proofs.StaticMessages.{Beating, Coming, Going, Joining, Rejoining, beating_is_spelled, coming_spelled, going_is_spelled, joining_spelled, rejoining_spelled}
use Rattle.world_sim.proofs.StaticSteps.{AwayMember, Deserted, Expired, ID1, ID2, IMAGE, INSTANCE, ITS_OWN, Joined, Member1, Member2, NAME, PARTITION, Rejoined, RejoinKept, TakenOver, expires, get-alone, goes_away, granted_to, has_granted, ids_apart, ids_apart_too, image_is, is_unknown, joins, partition_ties, rejoins, takes_over}

-- ---- the clients

abbrev TheSettings : Settings
TheSettings =
    record { group = GROUP; instance = Some INSTANCE; rack = None; rebalance_timeout = 60000; names = NAME ∷ []; assignor = Some (assignor_text Range) }

abbrev Fresh : Client
Fresh = new_client TheSettings

abbrev Waiting : Client
Waiting = after_asking Fresh Join

abbrev news_to : Text → ℕ → News
news_to m epoch = Accepts m epoch (Some ITS_OWN)

abbrev Inside1 : Client
Inside1 = after_news Waiting (news_to ID1 1)

abbrev Gone : Client
Gone = after_asking Inside1 GoAway

abbrev Inside2 : Client
Inside2 = after_news Waiting (news_to ID2 1)

abbrev Asking : Client
Asking = after_asking Inside2 (Beat Short)

abbrev Fenced : Client
Fenced = after_news Asking Fences

abbrev Again : Client
Again = after_asking Fenced Join

abbrev Back : Client
Back = after_news Again (news_to ID2 3)

-- ---- the coordinators

abbrev Seeing : Coordinator
Seeing = record (opening 0) { image = IMAGE }

abbrev WithOne : Coordinator
WithOne = with_group Seeing GROUP Joined

abbrev WithAway : Coordinator
WithAway = with_group WithOne GROUP Deserted

abbrev WithHeir : Coordinator
WithHeir = with_group WithAway GROUP TakenOver

abbrev Ticked : Coordinator
Ticked = record WithHeir { groups = all_ticked WithHeir.groups 45000 }

abbrev WithNone : Coordinator
WithNone = with_group Ticked GROUP Expired

abbrev WithBack : Coordinator
WithBack = with_group WithNone GROUP Rejoined

of_one : finite.get WithOne.groups GROUP ≡ Some Joined
of_one = get-inserted text_cmp_total Seeing.groups GROUP Joined

of_away : finite.get WithAway.groups GROUP ≡ Some Deserted
of_away = get-inserted text_cmp_total WithOne.groups GROUP Deserted

of_heir : finite.get WithHeir.groups GROUP ≡ Some TakenOver
of_heir = get-inserted text_cmp_total WithAway.groups GROUP TakenOver

of_ticked : finite.get Ticked.groups GROUP ≡ Some Expired
of_ticked = get_ticked WithHeir.groups 45000 GROUP ∙ ap (option_map (λ (g : Group). ticked g 45000)) of_heir ∙ ap Some expires

of_none : finite.get WithNone.groups GROUP ≡ Some Expired
of_none = get-inserted text_cmp_total Ticked.groups GROUP Expired

of_back : finite.get WithBack.groups GROUP ≡ Some Rejoined
of_back = get-inserted text_cmp_total WithNone.groups GROUP Rejoined

comes_to : (c : Coordinator) (g new : Group) (a : group.Arrival) (answer : group.Answer) → finite.get c.groups GROUP ≡ Some g → group.HeartbeatStep g a answer new
    → a.heartbeat.group ≡ GROUP → HeartbeatAt (finite.get c.groups GROUP) c a answer (with_group c GROUP new)
comes_to c g new a answer of_group step named =
    subst (λ (o : Option Group). HeartbeatAt o c a answer (with_group c GROUP new)) (sym of_group)
    (new, step, ap (λ (name : Text). with_group c name new) (sym named))

room : has_room Seeing ≡ true
room = ap (λ n. nat_lt n MOST_GROUPS) (finite.len-empty text_cmp Group)

opens : HeartbeatAt (finite.get Seeing.groups GROUP) Seeing (record { heartbeat = Joining.said; stamp = record { connection = 1; frame = 1 }; moment = 0; image = IMAGE }) (group.Replied Joining.reply) WithOne
opens =
    subst (λ (o : Option Group). HeartbeatAt o Seeing (record { heartbeat = Joining.said; stamp = record { connection = 1; frame = 1 }; moment = 0; image = IMAGE }) (group.Replied Joining.reply) WithOne) (sym (finite.get-empty text_cmp GROUP)) (
      group.Replied Joining.reply,
      Joined,
      joins,
      subst (λ b. Makes true b Seeing (record { name = GROUP; left = Joined; reply = Joining.reply }) (group.Replied Joining.reply) WithOne) (sym room) (refl, refl),
    )

-- ---- the worlds

abbrev First : World
First = new_world 0 (TheSettings ∷ TheSettings ∷ [])

abbrev Seen : World
Seen = with_coordinator First Seeing

abbrev OneAsks : World
OneAsks = asking Joining Waiting Seen

abbrev OneIsAnswered : World
OneIsAnswered = answering Joining Waiting OneAsks WithOne

abbrev OneInside : World
OneInside = taking Joining Waiting (news_to ID1 1) OneIsAnswered

abbrev Leaving : World
Leaving = asking Going Gone OneInside

abbrev Left : World
Left = answering Going Gone Leaving WithAway

abbrev TwoAsks : World
TwoAsks = asking Coming Waiting Left

abbrev TwoIsAnswered : World
TwoIsAnswered = answering Coming Waiting TwoAsks WithHeir

abbrev TwoInside : World
TwoInside = taking Coming Waiting (news_to ID2 1) TwoIsAnswered

abbrev Silent : World
Silent = with_coordinator (record TwoInside { clock = 45000 }) Ticked

abbrev TwoBeats : World
TwoBeats = asking Beating Asking Silent

abbrev TwoIsRefused : World
TwoIsRefused = answering Beating Asking TwoBeats WithNone

abbrev TwoIsFenced : World
TwoIsFenced = taking Beating Asking Fences TwoIsRefused

abbrev AsksAgain : World
AsksAgain = asking Rejoining Again TwoIsFenced

abbrev IsAnsweredAgain : World
IsAnsweredAgain = answering Rejoining Again AsksAgain WithBack

abbrev InsideAgain : World
InsideAgain = taking Rejoining Again (news_to ID2 3) IsAnsweredAgain

-- ---- the acts

seen : IsReached Seen
seen =
    reached_by First Seen (Sees IMAGE) IsDone (record { salt = 0; clients = TheSettings ∷ TheSettings ∷ []; acts = []; outcomes = []; run = refl }) (Seeing, (refl, refl, image_is), (refl, refl))

one_asks : IsReached OneAsks
one_asks = reached_by Seen OneAsks (Asks 1 Join) (IsSent 1) seen (asks Joining joining_spelled Seen Fresh Join refl refl refl)

one_is_answered : IsReached OneIsAnswered
one_is_answered =
    reached_by OneAsks OneIsAnswered (Deliver 1) (IsReplied 1 Joining.value) one_asks
    (delivers Joining joining_spelled OneAsks Waiting WithOne opens 1 refl refl)

one_inside : IsReached OneInside
one_inside =
    reached_by OneIsAnswered OneInside (Take 1) (Is (state_of Inside1)) one_is_answered
    (takes Joining joining_spelled OneIsAnswered Waiting (news_to ID1 1) 1 refl refl refl refl refl)

leaving : IsReached Leaving
leaving = reached_by OneInside Leaving (Asks 1 GoAway) (IsSent 2) one_inside (asks Going going_is_spelled OneInside Inside1 GoAway refl refl refl)

leaves : ActStep Leaving (Deliver 2) (IsReplied 2 Going.value) Left
leaves =
    delivers Going going_is_spelled Leaving Gone WithAway (comes_to WithOne Joined Deserted _ _ of_one goes_away refl) 2 refl refl

two_asks : ActStep Left (Asks 2 Join) (IsSent 3) TwoAsks
two_asks = asks Coming coming_spelled Left Fresh Join refl refl refl

two_is_answered : ActStep TwoAsks (Deliver 3) (IsReplied 3 Coming.value) TwoIsAnswered
two_is_answered =
    delivers Coming coming_spelled TwoAsks Waiting WithHeir (comes_to WithAway Deserted TakenOver _ _ of_away takes_over refl) 3 refl refl

two_takes : ActStep TwoIsAnswered (Take 3) (Is (state_of Inside2)) TwoInside
two_takes = takes Coming coming_spelled TwoIsAnswered Waiting (news_to ID2 1) 3 refl refl refl refl refl

passes : ActStep TwoInside (Passes 45000) (IsRemoved (removed_from_all WithHeir.groups 45000)) Silent
passes = (removed_from_all WithHeir.groups 45000, Ticked, (refl, refl), (refl, refl))

two_beats : ActStep Silent (Asks 2 (Beat Short)) (IsSent 4) TwoBeats
two_beats = asks Beating beating_is_spelled Silent Inside2 (Beat Short) refl refl refl

two_is_refused : ActStep TwoBeats (Deliver 4) (IsReplied 4 Beating.value) TwoIsRefused
two_is_refused =
    delivers Beating beating_is_spelled TwoBeats Asking WithNone (comes_to Ticked Expired Expired _ _ of_ticked is_unknown refl) 4 refl refl

two_is_fenced : ActStep TwoIsRefused (Take 4) (Is (state_of Fenced)) TwoIsFenced
two_is_fenced = takes Beating beating_is_spelled TwoIsRefused Asking Fences 4 refl refl refl refl refl

asks_again : ActStep TwoIsFenced (Asks 2 Join) (IsSent 5) AsksAgain
asks_again = asks Rejoining rejoining_spelled TwoIsFenced Fenced Join refl refl refl

is_gone : finite.get Expired.records ID2 ≡ None
is_gone = finite.get-empty text_cmp ID2

remembered : (is_some (finite.get Expired.records ID2) || (eq_by_cmp text_cmp ID2 ID1 || (eq_by_cmp text_cmp ID2 ID2 || false))) ≡ true
remembered = λ i. is_some (is_gone i) || (ids_apart i || (text_ties ID2 i || false))

is_answered_again : ActStep AsksAgain (Deliver 5) (IsReplied 5 Rejoining.value) IsAnsweredAgain
is_answered_again =
    delivers Rejoining rejoining_spelled AsksAgain Again WithBack (comes_to WithNone Expired Rejoined _ _ of_none rejoins refl) 5 refl
    (ap (λ (o : Option Group). not (length ID2 == 0) && is_unremembered o ID2) of_none
    ∙ (λ i. not (length-made_id 0 2 i == 0) && not (remembered i)))

takes_again : ActStep IsAnsweredAgain (Take 5) (Is (state_of Back)) InsideAgain
takes_again = takes Rejoining rejoining_spelled IsAnsweredAgain Again (news_to ID2 3) 5 refl refl refl refl refl

-- ---- what is there in the worlds

its_record : (w : World) (g : Group) (m : Text) (r : Record) → finite.get w.coordinator.groups GROUP ≡ Some g → finite.get g.records m ≡ Some r → record_in w GROUP m ≡ Some r
its_record w g m r of_group kept = ap (option_and_then (λ (x : Group). finite.get x.records m)) of_group ∙ kept

its_grant : (c : Coordinator) (g : Group) (m : Text) → finite.get c.groups GROUP ≡ Some g → g.grants ≡ granted_to m → has (granted c GROUP m) PARTITION ≡ true
its_grant c g m of_group grants =
    ap (λ (o : Option Group). has (option_map_or (λ (x : Group). held x.grants m) o nothing) PARTITION) of_group
    ∙ has-held g.grants m PARTITION
    ∙ ap (λ (gs : Grants). has gs (m, PARTITION)) grants
    ∙ has_granted m m PARTITION
    ∙ (λ i. text_ties m i && partition_ties i)

holds_it : has {R = partition_cmp} (union nothing ITS_OWN) PARTITION ≡ true
holds_it =
    has-union partition_cmp_total nothing ITS_OWN PARTITION
    ∙ or_right (has (nothing {R = partition_cmp}) PARTITION) (has ITS_OWN PARTITION) (has-of_list partition_cmp_total (PARTITION ∷ []) PARTITION ∙ ap (λ b. b || false) partition_ties)

not_kept : finite.get TakenOver.records ID1 ≡ None
not_kept = get-alone ID2 ID1 Member2 ∙ ap (λ b. cond b (Some Member2) None) ids_apart_too

abbrev holder : Holder TwoInside
holder =
    record {
      number = 2;
      client = Inside2;
      id = ID2;
      member = record {
        client = refl;
        is_id = refl;
        member = record { group = TakenOver; of_group = of_heir; has_record = ap is_some (get-inserted text_cmp_total finite.empty ID2 Member2) };
      };
      partition = PARTITION;
      holds = holds_it;
    }

abbrev again : Holder InsideAgain
again =
    record {
      number = 2;
      client = Back;
      id = ID2;
      member = record {
        client = refl;
        is_id = refl;
        member = record { group = Rejoined; of_group = of_back; has_record = ap is_some (get-inserted text_cmp_total finite.empty ID2 RejoinKept) };
      };
      partition = PARTITION;
      holds = holds_it;
    }

pub some_static_member_is_taken_over : SomeStaticMemberIsTakenOver
some_static_member_is_taken_over =
    record {
      name = GROUP;
      instance = INSTANCE;
      partition = PARTITION;
      present = Leaving;
      reached = leaving;
      member = ID1;
      deserted = Left;
      goes_away = record {
        answered = record { request = 2; sent = sent_in Going Gone; is_sent = refl; reply = 2; said = Going.value; delivers = leaves; succeeds = refl };
        before = Member1;
        was = its_record Leaving Joined ID1 Member1 of_one (get-inserted text_cmp_total finite.empty ID1 Member1);
        epoch = 1;
        present = refl;
        static = refl;
        granted_before = its_grant WithOne Joined ID1 of_one refl;
        after = AwayMember;
        is = its_record Left Deserted ID1 AwayMember of_away (get-inserted text_cmp_total finite.empty ID1 AwayMember);
        away = refl;
        granted_after = its_grant WithAway Deserted ID1 of_away refl;
      };
      before = TwoAsks;
      until = (Asks 2 Join ∷ [], IsSent 3 ∷ [], (TwoAsks, two_asks, refl));
      heir = ID2;
      taken = TwoIsAnswered;
      takes_over = record {
        answered = record { request = 3; sent = sent_in Coming Waiting; is_sent = refl; reply = 3; said = Coming.value; delivers = two_is_answered; succeeds = refl };
        before = AwayMember;
        was = its_record TwoAsks Deserted ID1 AwayMember of_away (get-inserted text_cmp_total finite.empty ID1 AwayMember);
        away = refl;
        static = refl;
        granted_before = its_grant WithAway Deserted ID1 of_away refl;
        absent = ap (option_and_then (λ (x : Group). finite.get x.records ID2)) of_away ∙ get-alone ID1 ID2 AwayMember ∙ ap (λ b. cond b (Some AwayMember) None) ids_apart;
        after = Member2;
        is = its_record TwoIsAnswered TakenOver ID2 Member2 of_heir (get-inserted text_cmp_total finite.empty ID2 Member2);
        same_instance = refl;
        granted_after = its_grant WithHeir TakenOver ID2 of_heir refl;
        former = record {
          group = TakenOver;
          of_group = of_heir;
          absent = not_kept;
          remembered = λ i. is_some (not_kept i) || (text_ties ID1 i || false);
        };
      };
      another = λ same. absurd (omega (arith, same));
      holding = TwoInside;
      leads_to_holding = (Take 3 ∷ [], Is (state_of Inside2) ∷ [], (TwoInside, two_takes, refl));
      holder = holder;
      is_heir = refl;
      left = AsksAgain;
      leads_to_left = (
        Passes 45000 ∷ Asks 2 (Beat Short) ∷ Deliver 4 ∷ Take 4 ∷ Asks 2 Join ∷ [],
        IsRemoved (removed_from_all WithHeir.groups 45000) ∷ IsSent 4 ∷ IsReplied 4 Beating.value ∷ Is (state_of Fenced) ∷ IsSent 5 ∷ [],
        (Silent, passes, (TwoBeats, two_beats, (TwoIsRefused, two_is_refused, (TwoIsFenced, two_is_fenced, (AsksAgain, asks_again, refl))))),
      );
      former = ID2;
      back = IsAnsweredAgain;
      joins_again = record {
        answered = record { request = 5; sent = sent_in Rejoining Again; is_sent = refl; reply = 5; said = Rejoining.value; delivers = is_answered_again; succeeds = refl };
        client = Again;
        is_client = refl;
        is_id = refl;
        former = record { group = Expired; of_group = of_none; absent = is_gone; remembered = remembered };
        after = RejoinKept;
        is = its_record IsAnsweredAgain Rejoined ID2 RejoinKept of_back (get-inserted text_cmp_total finite.empty ID2 RejoinKept);
      };
      last = InsideAgain;
      leads_to_last = (Take 5 ∷ [], Is (state_of Back) ∷ [], (InsideAgain, takes_again, refl));
      again = again;
      is_former = refl;
    }
