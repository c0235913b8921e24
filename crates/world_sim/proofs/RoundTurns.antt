-- A turn of a round: the world is as ready for the next turn, the turn's client is a step nearer to its target, and
-- every other client is where it was.
use Rattle.std.proofs.Common.{◌≡◌, ◌≢◌, ◌⊎◌, ℕ, zero, suc, ◌<◌, ◌≤◌, Bool, true, false, not, ◌&&◌, ◌||◌, List, [], ◌∷◌, map, Option, Some, None, is_some, refl, sym, ap, subst, ◌∙◌, inl, inr, true≢false, arith}
use Rattle.std.specs.List.{list_any}
use Rattle.std.specs.Ordering.{eq_by_cmp}
use Rattle.std.specs.Cmp.{Equal-is, eq_by_cmp_equiv, first_so, second_so}
use Rattle.std.specs.FinMap as finite
use Rattle.std.proofs.lemmas.Bool.{and_right, or_right}
use Rattle.kip_msgs.specs.Laws.{OneRequestABody, OneReplyABody}
use Rattle.group_types.specs.declared.epoch.Epoch.{Epoch}
use Rattle.group_types.specs.declared.epoch.Epoch.TheVariants.{At}
use Rattle.group_types.specs.declared.partition.Partition.{Partition}
use Rattle.group_types.specs.Limits.{GREATEST_EPOCH}
use Rattle.group_types.specs.Text.{Text, text_cmp}
use Rattle.group_types.specs.Sets.{common, has, in_order, is_nothing, minus}
use Rattle.group_types.specs.Partition.{partition_cmp, Partitions}
use Rattle.group_types.specs.Group.{Grant, Grants, Group, Record, grant_cmp, held, wanted}
use Rattle.group_types.specs.Leave.{last_epoch, last_epoch_at}
use Rattle.group_types.specs.Settle.{is_free_for, may_settle}
use Rattle.group_types.specs.Renewal.{view_for}
use Rattle.group_types.specs.Laws.{EveryGroupIsSound}
use Rattle.group_types.proofs.GrantLemmas.{grant_cmp_total, has-held}
use Rattle.group_types.proofs.Lookups.{Tie, ties, differs, tie, get-inserted, get-insert_other, some_is, text_ties}
use Rattle.group_types.proofs.Orders.{partition_cmp_total, partition_cmp-IsAntisymmetric}
use Rattle.group_types.proofs.SetLemmas.{common-nothing, has-common, has-in_order, has-minus, is_nothing-Decides, same_set}
use Rattle.group_types.proofs.SpreadLemmas.{has-share_of, owns-get}
use Rattle.coord_node.specs.Coordinator.{Coordinator}
use Rattle.coord_node.specs.Steps.{Step}
use Rattle.coord_node.specs.Laws.{StepsAreSound}
use Rattle.member_core.specs.Settings.{Settings}
use Rattle.member_core.specs.Client.{Client, Inside, State}
use Rattle.member_core.specs.Asking.{Beat, Full, after_sending}
use Rattle.world_sim.specs.World.{World, numbered}
use Rattle.world_sim.specs.Acts.{ActStep, Asks, Deliver, Take, Release, Outcome, Is, IsSent, IsReplied}
use Rattle.world_sim.specs.Turn.{Holds, Seen}
use Rattle.world_sim.specs.Invariant.{GroupKeeps, ClientKeeps, Keeps, clients_of, group_at}
use Rattle.world_sim.specs.Rounds.{HasTurn, IsHeard}
use Rattle.world_sim.proofs.EveryAct.{act_keeps, run_keeps}
use Rattle.world_sim.proofs.Former.{made_is_given}
use Rattle.world_sim.proofs.FullBeats.{CanBeat, HasBeat, IsSteady}
use Rattle.world_sim.proofs.FullTurns.{HasGone, IsHeardIn, IsReply, IsSending, gone, heard_in, is_answered, is_taken, sending}
use Rattle.world_sim.proofs.Groups.{group_is}
use Rattle.world_sim.proofs.KeptByTurns.{frame_later}
use Rattle.world_sim.proofs.Numbered.{Place, at, elsewhere, numbered_itself, place}

-- ---- what a turn needs

-- the client knows an epoch above 0 that its record has or had last, and the record isn't away
pub record IsHere (w : World) (c : Client) : Type 0 where
  pub id : Text
  pub is_id : c.id ≡ Some id
  pub below : ℕ
  pub is_epoch : c.epoch ≡ suc below
  pub group : Group
  pub of_group : finite.get w.coordinator.groups c.settings.group ≡ Some group
  pub kept : Record
  pub is_kept : finite.get group.records id ≡ Some kept
  pub epoch : ℕ
  pub at_epoch : kept.epoch ≡ At epoch
  pub current : (epoch ≡ suc below) ⊎ (kept.previous_epoch ≡ suc below)

-- the client with an id in a group
abbrev pub HasClient : World → Text → Text → Type 0
HasClient w name m = (n : ℕ) × (c : Client) × (numbered w.clients n ≡ Some c) × (c.settings.group ≡ name) × (c.id ≡ Some m)

pub record IsReadyFor (w : World) : Type 0 where
  pub keeps : Keeps w
  pub here : (n : ℕ) (c : Client) → numbered w.clients n ≡ Some c → IsHere w c
  pub has_client : (name : Text) (g : Group) (m : Text) (r : Record) → finite.get w.coordinator.groups name ≡ Some g → finite.get g.records m ≡ Some r → HasClient w name m
  pub room : (name : Text) (g : Group) → finite.get w.coordinator.groups name ≡ Some g
      → (g.epoch < GREATEST_EPOCH) ⊎ (g.view ≡ view_for w.coordinator.image g.records)

-- ---- how near a client is to its target

-- of the client, its target, the target's epoch, and whether it is granted a partition
abbrev pub Stage : Type 1
Stage = Client → Partitions → ℕ → (Partition → Bool) → Type 0

-- in a steady group the client is at the stage
pub record IsAt (S : Stage) (w : World) (c : Client) : Type 0 where
  pub id : Text
  pub is_id : c.id ≡ Some id
  pub group : Group
  pub of_group : finite.get w.coordinator.groups c.settings.group ≡ Some group
  pub steady : IsSteady w.coordinator.image group
  pub stage : S c (wanted group.target id) group.target_epoch (λ p. has group.grants (id, p))

abbrev pub Every : Stage → World → Type 0
Every S w = (n : ℕ) (c : Client) → numbered w.clients n ≡ Some c → IsAt S w c

-- it owns nothing beside its target
abbrev pub OwnsWithin : Stage
OwnsWithin c target epoch holds = (p : Partition) → has c.own p ≡ true → has target p ≡ true

-- and it is granted nothing beside it
abbrev pub HoldsWithin : Stage
HoldsWithin c target epoch holds = OwnsWithin c target epoch holds × ((p : Partition) → holds p ≡ true → has target p ≡ true)

-- and it owns all of it, at its epoch
abbrev pub OwnsAll : Stage
OwnsAll c target epoch holds = HoldsWithin c target epoch holds × (c.own ≡ target) × (c.epoch ≡ epoch)

-- ---- truth

pub above_zero : (n : ℕ) → 0 < n → (below : ℕ) × (n ≡ suc below)
above_zero zero above = absurd (omega (arith, above))
above_zero (suc n) above = (n, refl)

none_of : (f : Grant → Bool) (xs : List Grant) → ((x : Grant) → list_any (eq_by_cmp grant_cmp x) xs ≡ true → f x ≡ false) → list_any f xs ≡ false
none_of f [] each = refl
none_of f (x ∷ xs) each =
    let first : f x ≡ false = each x (ap (λ b. b || list_any (eq_by_cmp grant_cmp x) xs) (grant_itself x)) in
    let rest : list_any f xs ≡ false = none_of f xs (λ y there. each y (ap (λ b. eq_by_cmp grant_cmp y x || b) there ∙ or_right (eq_by_cmp grant_cmp y x) true refl)) in
    ap (λ b. b || list_any f xs) first ∙ rest
  where
    grant_itself : (x : Grant) → eq_by_cmp grant_cmp x x ≡ true
    grant_itself x = (eq_by_cmp_equiv grant_cmp_total).refl x

-- a partition is free for a member where nobody else holds it
pub free_where : (grants : Grants) (m : Text) (p : Partition) → ((k : Text) → Holds grants k p → k ≡ m) → is_free_for grants m p ≡ true
free_where grants m p only =
    ap not (none_of (λ g. eq_by_cmp partition_cmp p g.1 && not (eq_by_cmp text_cmp m g.0)) (in_order grants) (λ x there. each x (has-in_order grants x ∙ there)))
  where
    each : (x : Grant) → has grants x ≡ true → (eq_by_cmp partition_cmp p x.1 && not (eq_by_cmp text_cmp m x.0)) ≡ false
    each x holds = by (eq_by_cmp partition_cmp p x.1) refl
      where
        by : (b : Bool) → eq_by_cmp partition_cmp p x.1 ≡ b → (b && not (eq_by_cmp text_cmp m x.0)) ≡ false
        by false apart = refl
        by true same =
            let is_p : p ≡ x.1 = partition_cmp-IsAntisymmetric p x.1 ((Equal-is (partition_cmp p x.1)).0 same) in
            let is_m : x.0 ≡ m = only x.0 (ap (λ y. has grants (x.0, y)) is_p ∙ holds) in
            ap (λ k. not (eq_by_cmp text_cmp m k)) is_m ∙ ap not (text_ties m)

module _ (one_request : OneRequestABody) (one_reply : OneReplyABody) (steps_sound : StepsAreSound Step) (every : EveryGroupIsSound) where
  turn_keeps : (w new : World) (n : ℕ) → Keeps w → HasTurn w n new → Keeps new
  turn_keeps w new n keeps turn =
      let told_as = turn.is_told in
      let heard_as = told_as.is_heard in
      let sent = act_keeps one_request one_reply steps_sound every w keeps (Asks n (Beat Full)) (IsSent heard_as.request) heard_as.sent heard_as.sends in
      let heard = act_keeps one_request one_reply steps_sound every heard_as.sent sent (Deliver heard_as.request) (IsReplied heard_as.reply heard_as.said) told_as.heard heard_as.delivers in
      let told = act_keeps one_request one_reply steps_sound every told_as.heard heard (Take heard_as.reply) (Is told_as.state) turn.told told_as.takes in
      run_keeps one_request one_reply steps_sound every (map (Release n) _) turn.states turn.told new told turn.releases

  module _ (w : World) (n : ℕ) (c : Client) (there : numbered w.clients n ≡ Some c) (ready : IsReadyFor w) where
    here : IsHere w c
    here = ready.here n c there

    abbrev m : Text
    m = here.id

    abbrev g : Group
    g = here.group

    abbrev Name : Text
    Name = c.settings.group

    group_keeps : (x : Client) (k : ℕ) → numbered w.clients k ≡ Some x → (h : IsHere w x) → GroupKeeps h.group (clients_of w.clients x.settings.group)
    group_keeps x k is h = subst (λ (y : Group). GroupKeeps y (clients_of w.clients x.settings.group)) (group_is w.coordinator x.settings.group h.group h.of_group) (ready.keeps.groups x.settings.group)

    client_keeps : (x : Client) (k : ℕ) → numbered w.clients k ≡ Some x → (h : IsHere w x) → ClientKeeps h.group (clients_of w.clients x.settings.group) k x
    client_keeps x k is h =
        subst (λ (y : Group). ClientKeeps y (clients_of w.clients x.settings.group) k x) (group_is w.coordinator x.settings.group h.group h.of_group) (ready.keeps.clients k x is)

    known : ClientKeeps g (clients_of w.clients Name) n c
    known = client_keeps c n there here

    keeps_g : GroupKeeps g (clients_of w.clients Name)
    keeps_g = group_keeps c n there here

    seen : Seen g m here.kept.stamp
    seen = inl (here.kept, here.is_kept, refl)

    owner : here.kept.stamp.connection ≡ n
    owner = (known.its m here.is_id).owner here.kept.stamp seen

    can : CanBeat g w.coordinator.image c.settings m here.below c.own (record { connection = n; frame = suc c.number }) here.kept here.epoch
    can =
        let its = known.its m here.is_id in
        let latest = its.latest here.kept.stamp seen in
        record {
          given = λ empty. made_is_given g.salt its.made.serial (sym its.made.made ∙ empty);
          was = here.is_kept;
          at = here.at_epoch;
          current = here.current;
          later = frame_later (record { connection = n; frame = suc c.number }) here.kept.stamp (sym owner) (omega (arith, latest));
          holds = λ p owns. known.holds m here.kept p here.is_id here.is_kept owns;
          settings = keeps_g.settings m here.kept c here.is_kept (subst (λ k. clients_of w.clients Name k c) (sym owner) (there, refl));
          room = ready.room Name g here.of_group;
        }

    -- ---- its beat is answered, and it takes the reply

    pub answered : (request : ℕ) (sent heard : World) (outcome : Outcome) → ActStep w (Asks n (Beat Full)) (IsSent request) sent → ActStep sent (Deliver request) outcome heard → IsReply outcome
    answered request sent heard outcome sends delivers =
        is_answered one_request one_reply w n c there m here.below here.is_id here.is_epoch g here.of_group keeps_g.sound here.kept here.epoch can request sent heard outcome
        (sending one_request one_reply w n c there request sent sends) delivers

    module _ (heard : World) (is_heard : IsHeard w n heard) where
      is_sending : IsSending one_request one_reply w n c there is_heard.request is_heard.sent
      is_sending = sending one_request one_reply w n c there is_heard.request is_heard.sent is_heard.sends

      heard_it : IsHeardIn one_request one_reply w n c there m here.below here.is_id here.is_epoch g here.of_group keeps_g.sound here.kept here.epoch can is_heard.reply is_heard.sent heard
      heard_it =
          heard_in one_request one_reply w n c there m here.below here.is_id here.is_epoch g here.of_group keeps_g.sound here.kept here.epoch can is_heard.request is_heard.sent heard is_heard.reply is_heard.said is_sending is_heard.delivers

      keeps_heard : Keeps heard
      keeps_heard =
          let sent = act_keeps one_request one_reply steps_sound every w ready.keeps (Asks n (Beat Full)) (IsSent is_heard.request) is_heard.sent is_heard.sends in
          act_keeps one_request one_reply steps_sound every is_heard.sent sent (Deliver is_heard.request) (IsReplied is_heard.reply is_heard.said) heard is_heard.delivers

      is_asked : numbered heard.clients n ≡ Some (after_sending c)
      is_asked = ap (λ (v : World). numbered v.clients n) heard_it.is ∙ ap (λ (v : World). numbered v.clients n) is_sending.is ∙ numbered_itself w.clients n (after_sending c) c there

      group_heard : group_at heard.coordinator Name ≡ heard_it.after
      group_heard =
          group_is heard.coordinator Name heard_it.after
          (ap (λ (v : World). finite.get v.coordinator.groups Name) heard_it.is ∙ get-inserted w.coordinator.groups Name heard_it.after)

      -- the client knows no later epoch than its record has
      positive : (below : ℕ) × (heard_it.beat.epoch ≡ suc below)
      positive =
          let beat = heard_it.beat in
          let behind : c.epoch ≤ last_epoch beat.after =
          (keeps_heard.clients n (after_sending c) is_asked).behind m beat.after here.is_id (ap (λ (x : Group). finite.get x.records m) group_heard ∙ beat.has_record) in
          let last : last_epoch beat.after ≡ beat.epoch = ap (λ (e : Epoch). last_epoch_at e beat.after) beat.at in
          above_zero beat.epoch (omega (arith, behind, last, here.is_epoch))

      pub taken : (outcome : Outcome) (told : World) → ActStep heard (Take is_heard.reply) outcome told → (s : State) × (outcome ≡ Is s)
      taken outcome told is =
          is_taken one_request one_reply w n c there m here.below here.is_id here.is_epoch g here.of_group keeps_g.sound here.kept here.epoch can is_heard.reply is_heard.sent heard heard_it is_asked told
          positive.0 positive.1 outcome is

    -- ---- its turn

    module _ (new : World) (turn : HasTurn w n new) where
      went : HasGone one_request one_reply w n c there m here.below here.is_id here.is_epoch g here.of_group keeps_g.sound here.kept here.epoch can new
      went = gone one_request one_reply w n c there m here.below here.is_id here.is_epoch g here.of_group keeps_g.sound here.kept here.epoch can new turn

      abbrev after : Group
      after = went.after

      abbrev beat : HasBeat g w.coordinator.image m c.own went.answer after
      beat = went.beat

      pub others_stay : (k : ℕ) → k ≢ n → numbered new.clients k ≡ numbered w.clients k
      others_stay = went.others

      pub its_number : (x : Client) × (numbered new.clients n ≡ Some x)
      its_number = (went.client, went.is_client)

      -- it is inside its group, doesn't wait, and has used one number
      pub it_has_turned : (x : Client) → numbered new.clients n ≡ Some x → (x.place ≡ Inside) × (x.waits ≡ false) × (x.number ≡ suc c.number)
      it_has_turned x is =
          let same : went.client ≡ x = some_is went.client x (sym went.is_client ∙ is) in
          subst (λ (y : Client). (y.place ≡ Inside) × (y.waits ≡ false) × (y.number ≡ suc c.number)) same (went.place, went.waits, went.number)

      new_keeps : Keeps new
      new_keeps = turn_keeps w new n ready.keeps turn

      -- ---- the groups, and the clients

      same_image : new.coordinator.image ≡ w.coordinator.image
      same_image = ap (λ (x : Coordinator). x.image) went.coordinator

      group_after : finite.get new.coordinator.groups Name ≡ Some after
      group_after = ap (λ (x : Coordinator). finite.get x.groups Name) went.coordinator ∙ get-inserted w.coordinator.groups Name after

      other_group : (name : Text) → eq_by_cmp text_cmp name Name ≡ false → finite.get new.coordinator.groups name ≡ finite.get w.coordinator.groups name
      other_group name apart = ap (λ (x : Coordinator). finite.get x.groups name) went.coordinator ∙ get-insert_other w.coordinator.groups Name after name apart

      steady_after : IsSteady new.coordinator.image after
      steady_after = subst (λ image. IsSteady image after) (sym same_image) beat.steady

      group_of_it : finite.get new.coordinator.groups went.client.settings.group ≡ Some after
      group_of_it = ap (λ (s : Settings). finite.get new.coordinator.groups s.group) went.settings ∙ group_after

      -- another client of the group has another id
      apart_ids : (k : ℕ) (x : Client) → numbered w.clients k ≡ Some x → k ≢ n → x.settings.group ≡ Name → (id : Text) → x.id ≡ Some id → eq_by_cmp text_cmp id m ≡ false
      apart_ids k x is other same id is_id = by (tie id m)
        where
          by : Tie id m → eq_by_cmp text_cmp id m ≡ false
          by (differs _ apart) = apart
          by (ties is_m) =
              let its = (subst (λ (name : Text). ClientKeeps (group_at w.coordinator name) (clients_of w.clients name) k x) same (ready.keeps.clients k x is)).its id is_id in
              let seen_there : Seen (group_at w.coordinator Name) id here.kept.stamp =
              inl (here.kept, (λ i. finite.get (group_is w.coordinator Name g here.of_group i).records (is_m i)) ∙ here.is_kept, refl) in
              absurd (other (sym (its.owner here.kept.stamp seen_there) ∙ owner))

      -- ---- the world is as ready

      it_is_here : IsHere new went.client
      it_is_here =
          let above = (new_keeps.clients n went.client went.is_client).inside went.place in
          let below = above_zero went.client.epoch above.2 in
          record {
            id = m;
            is_id = went.id;
            below = below.0;
            is_epoch = below.1;
            group = after;
            of_group = group_of_it;
            kept = beat.after;
            is_kept = beat.has_record;
            epoch = beat.epoch;
            at_epoch = beat.at;
            current = inl (sym went.epoch ∙ below.1);
          }

      other_is_here : (k : ℕ) (x : Client) → k ≢ n → numbered w.clients k ≡ Some x → IsHere new x
      other_is_here k x other is = by (tie x.settings.group Name)
        where
          old : IsHere w x
          old = ready.here k x is

          by : Tie x.settings.group Name → IsHere new x
          by (differs _ apart) =
              record {
                id = old.id;
                is_id = old.is_id;
                below = old.below;
                is_epoch = old.is_epoch;
                group = old.group;
                of_group = other_group x.settings.group apart ∙ old.of_group;
                kept = old.kept;
                is_kept = old.is_kept;
                epoch = old.epoch;
                at_epoch = old.at_epoch;
                current = old.current;
              }
          by (ties same) =
              let is_g : old.group ≡ g = some_is old.group g (sym old.of_group ∙ ap (finite.get w.coordinator.groups) same ∙ here.of_group) in
              record {
                id = old.id;
                is_id = old.is_id;
                below = old.below;
                is_epoch = old.is_epoch;
                group = after;
                of_group = ap (finite.get new.coordinator.groups) same ∙ group_after;
                kept = old.kept;
                is_kept = beat.other_records old.id (apart_ids k x is other same old.id old.is_id) ∙ ap (λ (y : Group). finite.get y.records old.id) (sym is_g) ∙ old.is_kept;
                epoch = old.epoch;
                at_epoch = old.at_epoch;
                current = old.current;
              }

      -- who has a number had it, or is the turn's
      pub data Back (k : ℕ) (x : Client) : Type 0 where
        it : k ≡ n → Back k x
        another : k ≢ n → numbered w.clients k ≡ Some x → Back k x

      pub back : (k : ℕ) (x : Client) → numbered new.clients k ≡ Some x → Back k x
      back k x is = by (place k n)
        where
          by : Place k n → Back k x
          by (at same) = it same
          by (elsewhere other) = another other (sym (went.others k other) ∙ is)

      forth : (name id : Text) → HasClient w name id → HasClient new name id
      forth name id (k, x, is, of, is_id) = by (place k n)
        where
          by : Place k n → HasClient new name id
          by (elsewhere other) = (k, x, went.others k other ∙ is, of, is_id)
          by (at same) =
              let is_c : x ≡ c = some_is x c (sym is ∙ ap (numbered w.clients) same ∙ there) in (
                n,
                went.client,
                went.is_client,
                ap (λ (s : Settings). s.group) went.settings ∙ ap (λ (y : Client). y.settings.group) (sym is_c) ∙ of,
                went.id ∙ sym here.is_id ∙ ap (λ (y : Client). y.id) (sym is_c) ∙ is_id,
              )

      pub ready_after : IsReadyFor new
      ready_after =
          record {
            keeps = new_keeps;
            here = λ k x is. is_here k x is (back k x is);
            has_client = λ name h id r of kept. by_group name h id r of kept (tie name Name);
            room = λ name h of. by_room name h of (tie name Name);
          }
        where
          is_here : (k : ℕ) (x : Client) → numbered new.clients k ≡ Some x → Back k x → IsHere new x
          is_here k x is (it same) = subst (IsHere new) (some_is went.client x (sym went.is_client ∙ ap (numbered new.clients) (sym same) ∙ is)) it_is_here
          is_here k x is (another other was) = other_is_here k x other was

          by_id : (h : Group) (id : Text) (r : Record) → h ≡ after → finite.get h.records id ≡ Some r → Tie id m → HasClient new Name id
          by_id h id r is kept (ties same) = (n, went.client, went.is_client, ap (λ (s : Settings). s.group) went.settings, went.id ∙ ap Some (sym same))
          by_id h id r is kept (differs _ apart) =
              forth Name id (ready.has_client Name g id r here.of_group (sym (beat.other_records id apart) ∙ ap (λ (y : Group). finite.get y.records id) (sym is) ∙ kept))

          by_group : (name : Text) (h : Group) (id : Text) (r : Record) → finite.get new.coordinator.groups name ≡ Some h → finite.get h.records id ≡ Some r → Tie name Name → HasClient new name id
          by_group name h id r of kept (differs _ apart) = forth name id (ready.has_client name h id r (sym (other_group name apart) ∙ of) kept)
          by_group name h id r of kept (ties same) =
              let is : h ≡ after = some_is h after (sym of ∙ ap (finite.get new.coordinator.groups) same ∙ group_after) in
              subst (λ (x : Text). HasClient new x id) (sym same) (by_id h id r is kept (tie id m))

          by_room : (name : Text) (h : Group) → finite.get new.coordinator.groups name ≡ Some h → Tie name Name → (h.epoch < GREATEST_EPOCH) ⊎ (h.view ≡ view_for new.coordinator.image h.records)
          by_room name h of (differs _ apart) =
              subst (λ image. (h.epoch < GREATEST_EPOCH) ⊎ (h.view ≡ view_for image h.records)) (sym same_image) (ready.room name h (sym (other_group name apart) ∙ of))
          by_room name h of (ties same) =
              let is : h ≡ after = some_is h after (sym of ∙ ap (finite.get new.coordinator.groups) same ∙ group_after) in
              inr (subst (λ (y : Group). y.view ≡ view_for new.coordinator.image y.records) (sym is) steady_after.view)

      -- ---- the other clients stay at their stages

      module _ (S : Stage) where
        same_stage : (x : Client) (a b : Group) (id : Text) → b.target ≡ a.target → b.target_epoch ≡ a.target_epoch → ((p : Partition) → has b.grants (id, p) ≡ has a.grants (id, p))
            → S x (wanted a.target id) a.target_epoch (λ p. has a.grants (id, p)) → S x (wanted b.target id) b.target_epoch (λ p. has b.grants (id, p))
        same_stage x a b id target epoch grants is =
            subst (λ (holds : Partition → Bool). S x (wanted b.target id) b.target_epoch holds) (λ i p. sym (grants p) i)
            (subst (λ t. S x (wanted b.target id) t (λ p. has a.grants (id, p))) (sym epoch)
            (subst (λ target. S x (wanted target id) a.target_epoch (λ p. has a.grants (id, p))) (sym target) is))

        pub other_stays : (k : ℕ) (x : Client) → k ≢ n → numbered w.clients k ≡ Some x → IsAt S w x → IsAt S new x
        other_stays k x other is old = by (tie x.settings.group Name)
          where
            by : Tie x.settings.group Name → IsAt S new x
            by (differs _ apart) =
                record {
                  id = old.id;
                  is_id = old.is_id;
                  group = old.group;
                  of_group = other_group x.settings.group apart ∙ old.of_group;
                  steady = subst (λ image. IsSteady image old.group) (sym same_image) old.steady;
                  stage = old.stage;
                }
            by (ties same) =
                let is_g : old.group ≡ g = some_is old.group g (sym old.of_group ∙ ap (finite.get w.coordinator.groups) same ∙ here.of_group) in
                let stays = beat.stays (subst (λ (y : Group). IsSteady w.coordinator.image y) is_g old.steady) in
                record {
                  id = old.id;
                  is_id = old.is_id;
                  group = after;
                  of_group = ap (finite.get new.coordinator.groups) same ∙ group_after;
                  steady = steady_after;
                  stage =
                      same_stage x g after old.id stays.0 stays.1 (λ p. beat.other_grants old.id p (apart_ids k x is other same old.id old.is_id))
                      (subst (λ (y : Group). S x (wanted y.target old.id) y.target_epoch (λ p. has y.grants (old.id, p))) is_g old.stage);
                }

      -- ---- the turn's client comes a stage nearer

      abbrev Target : Partitions
      Target = wanted after.target m

      stands : (S : Stage) → S went.client Target after.target_epoch (λ p. has after.grants (m, p)) → (x : Client) → numbered new.clients n ≡ Some x → IsAt S new x
      stands S is x it_is =
          subst (IsAt S new) (some_is went.client x (sym went.is_client ∙ it_is))
          (record { id = m; is_id = went.id; group = after; of_group = group_of_it; steady = steady_after; stage = is })

      -- it owns what it is granted of its target
      owns : (p : Partition) → has went.client.own p ≡ (has after.grants (m, p) && has Target p)
      owns p =
          ap (λ s. has s p) went.own
          ∙ has-common partition_cmp_total (held after.grants m) Target p
          ∙ ap (λ b. b && has Target p) (has-held after.grants m p)

      within : OwnsWithin went.client Target after.target_epoch (λ p. has after.grants (m, p))
      within p owned = second_so (has after.grants (m, p)) (has Target p) (sym (owns p) ∙ owned)

      pub first_stage : (x : Client) → numbered new.clients n ≡ Some x → IsAt OwnsWithin new x
      first_stage = stands OwnsWithin within

      module _ (before : IsAt OwnsWithin w c) where
        same_id : before.id ≡ m
        same_id = some_is before.id m (sym before.is_id ∙ here.is_id)

        same_group : before.group ≡ g
        same_group = some_is before.group g (sym before.of_group ∙ here.of_group)

        stays : (after.target ≡ g.target) × (after.target_epoch ≡ g.target_epoch)
        stays = beat.stays (subst (λ (y : Group). IsSteady w.coordinator.image y) same_group before.steady)

        owned_within : (p : Partition) → has c.own p ≡ true → has Target p ≡ true
        owned_within p owned =
            ap (λ target. has (wanted target m) p) (stays.0 ∙ ap (λ (y : Group). y.target) (sym same_group))
            ∙ ap (λ id. has (wanted before.group.target id) p) (sym same_id)
            ∙ before.stage p owned

        -- what it reports shares nothing with what it is to give up
        may : may_settle g.grants m Target (Some c.own) ≡ true
        may = or_right (is_nothing rest) (is_nothing (common c.own rest)) ((is_nothing-Decides (common c.own rest)).1 (common-nothing partition_cmp_total partition_cmp-IsAntisymmetric c.own rest (λ p owned.
            has-minus partition_cmp_total (held g.grants m) Target p
            ∙ ap (λ b. has (held g.grants m) p && not b) (owned_within p owned)
            ∙ and_right (has (held g.grants m) p) false refl)))
          where
            rest : Partitions
            rest = minus (held g.grants m) Target

        moves : (beat.epoch ≡ after.target_epoch) × ((p : Partition) → has after.grants (m, p) ≡ (has Target p && (has g.grants (m, p) || is_free_for g.grants m p)))
        moves = beat.moves may

        held_within : (p : Partition) → has after.grants (m, p) ≡ true → has Target p ≡ true
        held_within p holds = first_so (has Target p) (has g.grants (m, p) || is_free_for g.grants m p) (sym (moves.1 p) ∙ holds)

        pub second_stage : (x : Client) → numbered new.clients n ≡ Some x → IsAt HoldsWithin new x
        second_stage = stands HoldsWithin (within, held_within)

        -- where nobody is granted more than its target, all of the target is the client's, or free
        module _ (all : Every HoldsWithin w) where
          wants : (k : Text) (p : Partition) → has (wanted g.target k) p ≡ true → finite.get g.target p ≡ Some k
          wants k p is = (owns-get g.target k p).0 (sym (has-share_of g.target k p) ∙ is)

          its_own : (k : Text) (p : Partition) → Holds g.grants k p → (r : Option Record) → finite.get g.records k ≡ r → has (wanted g.target k) p ≡ true
          its_own k p holds None none = absurd (true≢false (sym (keeps_g.sound.holders k p holds) ∙ ap is_some none))
          its_own k p holds (Some r) kept =
              let who = ready.has_client Name g k r here.of_group kept in
              let found = all who.0 who.1 who.2 in
              let same_k : found.id ≡ k = some_is found.id k (sym found.is_id ∙ who.4) in
              let same_g : found.group ≡ g = some_is found.group g (sym found.of_group ∙ ap (finite.get w.coordinator.groups) who.3 ∙ here.of_group) in
              (λ i. has (wanted (sym same_g i).target (sym same_k i)) p)
              ∙ found.stage.1 p ((λ i. has (same_g i).grants (same_k i, p)) ∙ holds)

          free : (p : Partition) → has Target p ≡ true → is_free_for g.grants m p ≡ true
          free p wanted_here =
              free_where g.grants m p (λ k holds.
              some_is k m
              (sym (wants k p (its_own k p holds (finite.get g.records k) refl))
              ∙ wants m p (ap (λ target. has (wanted target m) p) (sym stays.0) ∙ wanted_here)))

          gets_all : (p : Partition) → has went.client.own p ≡ has Target p
          gets_all p = owns p ∙ ap (λ b. b && has Target p) (moves.1 p) ∙ by (has Target p) (has g.grants (m, p)) (is_free_for g.grants m p) (free p)
            where
              by : (t h f : Bool) → (t ≡ true → f ≡ true) → ((t && (h || f)) && t) ≡ t
              by true true f is = refl
              by true false f is = ap (λ b. b && true) (is refl)
              by false h f is = refl

          pub third_stage : (x : Client) → numbered new.clients n ≡ Some x → IsAt OwnsAll new x
          third_stage =
              stands OwnsAll
              ((within, held_within), same_set partition_cmp_total partition_cmp-IsAntisymmetric went.client.own Target gets_all, went.epoch ∙ moves.0)
