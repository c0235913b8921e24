-- Each act keeps what the world knows, and so does every list of acts.
use Rattle.std.proofs.Common.{◌≡◌, ℕ, suc, Bool, true, false, not, ◌&&◌, List, [], ◌∷◌, length, nat_lt, nat_le, Option, Some, None, unwrap_or, IsTrue, inl, inr, refl, sym, ap, subst, subst₂, ◌∙◌, true≢false, arith}
use Rattle.std.specs.Cmp.{first_so, second_so}
use Rattle.std.specs.List.{Contains}
use Rattle.std.specs.FinMap as finite
use Rattle.kip_msgs.specs.Values.{CommitRequestTopicValue}
use Rattle.kip_msgs.specs.Spelling.{SpellsRequest}
use Rattle.kip_msgs.specs.Laws.{OneRequestABody, OneReplyABody}
use Rattle.group_types.specs.declared.partition.Partition.{Partition}
use Rattle.group_types.specs.declared.stamp.Stamp.{Stamp}
use Rattle.group_types.specs.Text.{Text, text_cmp}
use Rattle.group_types.specs.Sets.{has}
use Rattle.group_types.specs.Partition.{Partitions}
use Rattle.group_types.specs.Group.{Group, Record, new_group}
use Rattle.group_types.specs.Laws.{EveryGroupIsSound}
use Rattle.group_types.proofs.Images.{empty-AreImageTopics}
use Rattle.group_types.proofs.Orders.{partition_cmp_total}
use Rattle.group_types.proofs.SetLemmas.{has-common}
use Rattle.group_types.proofs.GrantLemmas.{has-held}
use Rattle.group_types.proofs.Lookups.{not_none, some_is}
use Rattle.coord_node.specs.Steps.{Step}
use Rattle.coord_node.specs.Laws.{StepsAreSound}
use Rattle.member_core.specs.Limits.{GREATEST_NUMBER}
use Rattle.member_core.specs.Settings.{Settings}
use Rattle.member_core.specs.Client.{Client, Place, Outside, Inside, Gone, new_client}
use Rattle.member_core.specs.Asking as asking
use Rattle.member_core.specs.Asking.{Ask, Join, Beat, Leave, GoAway, after_asking, after_giving_up, heartbeat_for, may_ask, may_ask_at, request_for, request_value}
use Rattle.member_core.specs.Taking.{News, Accepts, Tells, TakesIf, after_news, meaning_of}
use Rattle.member_core.specs.Refusing.{is_too_large}
use Rattle.member_core.specs.Releasing.{after_release, may_release}
use Rattle.member_core.specs.Committing.{may_commit_at, commit_for}
use Rattle.world_sim.specs.World.{World, Request, Reply, Commit, cut, granted, numbered, new_world, with_client}
use Rattle.world_sim.specs.Acts.{Act, Asks, GivesUp, Deliver, Take, Release, Commits, Bring, Clock, Passes, Sees, Outcome, IsSent, ActStep, AsksIf, AsksStep, ChangesIf, Comes, GivesUpStep, ReleaseStep, DeliverStep, TakeBy, TakeStep, TakenAs, CommitsBy, CommitsIf, CommitsStep, BringStep, Run, SendsIf, commit_by, fits_frame, may_commit, stamp_of, with_sent}
use Rattle.world_sim.specs.Exclusivity.{Always}
use Rattle.world_sim.specs.Turn.{Seen}
use Rattle.world_sim.specs.Invariant.{GroupKeeps, ClientKeeps, RequestKeeps, CommitKeeps, SenderKeeps, Lags, IsMade, ReplyKeeps, Keeps, Says, clients_of, group_at}
use Rattle.world_sim.proofs.Lists.{to_in}
use Rattle.world_sim.proofs.Numbered.{numbered_in, numbered_itself, numbered_map}
use Rattle.world_sim.proofs.Messages.{accepted_above}
use Rattle.world_sim.proofs.Groups.{granted_at, group_none}
use Rattle.world_sim.proofs.Coordinators.{with_commit_keeps, with_request_keeps}
use Rattle.world_sim.proofs.Changes.{change_keeps}
use Rattle.world_sim.proofs.ClientActs.{IsAsked, is_inside, asked_owner, asked_made, asking, asks_as, giving_up, not_gone, releasing, taking}
use Rattle.world_sim.proofs.Deliveries.{brings, clocked, delivers, passes, sees}

-- ---- a client asks

still_of : (waits fits may : Bool) → (not waits && fits && may) ≡ true → (waits ≡ false) × (may ≡ true)
still_of false true true so = (refl, refl)
still_of false true false so = absurd (true≢false (sym so))
still_of false false may so = absurd (true≢false (sym so))
still_of true fits may so = absurd (true≢false (sym so))

asked_number : (c : Client) (ask : Ask) → (after_asking c ask).number ≡ suc c.number
asked_number c Join = refl
asked_number c (Beat fullness) = refl
asked_number c Leave = refl
asked_number c GoAway = refl

asked_settings : (c : Client) (ask : Ask) → (after_asking c ask).settings ≡ c.settings
asked_settings c Join = refl
asked_settings c (Beat fullness) = refl
asked_settings c Leave = refl
asked_settings c GoAway = refl

module _ (w : World) (keeps : Keeps w) (n : ℕ) (c : Client) (there : numbered w.clients n ≡ Some c) where
  abbrev at : Group
  at = group_at w.coordinator c.settings.group

  known : ClientKeeps at (clients_of w.clients c.settings.group) n c
  known = keeps.clients n c there

  module _ (ask : Ask) (body : List ℕ) (asks : asking.Asks c ask body (after_asking c ask)) where
    abbrev Asked : Client
    Asked = after_asking c ask

    abbrev After : World
    After = with_client w n Asked

    allowed : (c.waits ≡ false) × (may_ask_at c.place ask c.settings.instance ≡ true)
    allowed = still_of c.waits (nat_lt c.number GREATEST_NUMBER) (may_ask_at c.place ask c.settings.instance) asks.may

    asked_world : Keeps After
    asked_world = change_keeps w keeps n c Asked there (asking at (clients_of w.clients c.settings.group) n c known ask allowed.0 (not_gone at (clients_of w.clients c.settings.group) n c known ask allowed.1))

    is_asked : IsAsked at (clients_of w.clients c.settings.group) n c known (heartbeat_for c ask) Asked
    is_asked = asks_as at (clients_of w.clients c.settings.group) n c known ask allowed.1

    is_new : numbered After.clients n ≡ Some Asked
    is_new = numbered_itself w.clients n Asked c there

    in_group : (x : Client) → numbered After.clients n ≡ Some x → SenderKeeps at n (suc c.number) (heartbeat_for c ask) x
    in_group x is = subst (λ (y : Client). SenderKeeps at n (suc c.number) (heartbeat_for c ask) y) (some_is Asked x (sym is_new ∙ is)) is_asked.sender

    request_keeps : RequestKeeps at (clients_of After.clients c.settings.group) n (suc c.number) (heartbeat_for c ask)
    request_keeps =
        record {
          owner = asked_owner at (clients_of w.clients c.settings.group) n c known (heartbeat_for c ask) Asked is_asked;
          made = asked_made at (clients_of w.clients c.settings.group) n c known (heartbeat_for c ask) Asked is_asked;
          sender = λ x is. in_group x is.0;
        }

    says : Says After.coordinator After.clients (record { sender = n; stamp = stamp_of n Asked; body = body })
    says =
        record {
          heartbeat = heartbeat_for c ask;
          spells = subst (λ number. SpellsRequest (request_value number (heartbeat_for c ask)) body) (sym (asked_number c ask)) asks.spells;
          connection = refl;
          client = Asked;
          sender = (is_new, ap (λ (s : Settings). s.group) (asked_settings c ask) ∙ sym is_asked.group);
          keeps = subst₂ (λ (name : Text) number. RequestKeeps (group_at w.coordinator name) (clients_of After.clients name) n number (heartbeat_for c ask))
              (sym is_asked.group) (sym (asked_number c ask)) request_keeps;
        }

    sends : (outcome : Outcome) (after : World) → Comes (IsSent (suc (length w.requests))) (with_sent w n Asked body) outcome after → Keeps after
    sends outcome after is = subst Keeps (sym is.1) (with_request_keeps After asked_world (record { sender = n; stamp = stamp_of n Asked; body = body }) says)

  asks_if : (b : Bool) (ask : Ask) (outcome : Outcome) (after : World) → AsksIf b c w n ask outcome after → Keeps after
  asks_if false ask outcome after is = subst Keeps (sym is.1) keeps
  asks_if true ask outcome after is = by (is_too_large (request_for c ask)) is
    where
      by : (large : Bool) → SendsIf large c w n ask outcome after → Keeps after
      by true is = subst Keeps (sym is.1) keeps
      by false (body, new, asks, is) =
          sends ask body (subst (λ (x : Client). asking.Asks c ask body x) asks.after asks) outcome after
          (subst (λ (x : Client). Comes (IsSent (suc (length w.requests))) (with_sent w n x body) outcome after) asks.after is)

  -- ---- a client by itself

  gives_up : (b : Bool) (outcome : Outcome) (after : World) → ChangesIf b (after_giving_up c) w n outcome after → Keeps after
  gives_up false outcome after is = subst Keeps (sym is.1) keeps
  gives_up true outcome after is = subst Keeps (sym is.1) (change_keeps w keeps n c (after_giving_up c) there (giving_up at (clients_of w.clients c.settings.group) n c known))

  releases : (b : Bool) (p : Partition) (outcome : Outcome) (after : World) → ChangesIf b (after_release c p) w n outcome after → Keeps after
  releases false p outcome after is = subst Keeps (sym is.1) keeps
  releases true p outcome after is = subst Keeps (sym is.1) (change_keeps w keeps n c (after_release c p) there (releasing at (clients_of w.clients c.settings.group) n c known p))

  -- ---- a client takes a reply

  takes_if : (b : Bool) → c.waits ≡ b → (r : Reply) → Contains w.replies r → r.request.sender ≡ n → (after : Client) → TakesIf b c r.body true after → Keeps (with_client w n after)
  takes_if false still r pooled is_n after takes = absurd (true≢false takes.0)
  takes_if true waits r pooled is_n after (news, tells, is) =
      subst (λ (x : Client). Keeps (with_client w n x)) (sym is)
      (change_keeps w keeps n c (after_news c news) there
      (taking at (clients_of w.clients c.settings.group) n c known waits (there, refl) news (λ m epoch shown accepts.
      let told : Tells c.number r.body (Accepts m epoch shown) = subst (λ (x : News). Tells c.number r.body x) accepts tells in (
        accepted_above (meaning_of told.reply.error_code) told.reply.member_id told.reply.member_epoch _ m epoch shown told.tells,
        subst (λ j. ReplyKeeps at (clients_of w.clients c.settings.group) j c.number m epoch shown) is_n
            (keeps.replies r c c.number m epoch shown pooled (ap (numbered w.clients) is_n ∙ there) told),
      ))))

  -- ---- a client commits

  module _ (m : Text) (is_id : c.id ≡ Some m) (body : List ℕ) where
    abbrev commit : Commit
    commit = commit_by c body

    same_id : commit.id ≡ m
    same_id = ap (λ (o : Option Text). unwrap_or o []) is_id

    -- what the maker reads is granted to its id
    granted_now : (p : Partition) (r : Record) → finite.get at.records commit.id ≡ Some r → IsTrue (has c.own p) → IsTrue (has (granted w.coordinator c.settings.group commit.id) p)
    granted_now p r has_r owns =
        ap (λ (s : Partitions). has s p) (granted_at w.coordinator c.settings.group commit.id)
        ∙ has-held at.grants commit.id p
        ∙ ap (λ (k : Text). has at.grants (k, p)) same_id
        ∙ known.holds m r p is_id (ap (finite.get at.records) (sym same_id) ∙ has_r) owns

    commit_keeps : CommitKeeps at (clients_of w.clients c.settings.group) (cut w.coordinator commit)
    commit_keeps =
        record {
          made = subst (λ (k : Text). IsMade at k) (sym same_id) (known.its m is_id).made;
          below = known.below;
          behind = λ r has_r. known.behind m r is_id (ap (finite.get at.records) (sym same_id) ∙ has_r);
          still = λ r p has_r same owns.
              has-common partition_cmp_total c.own (granted w.coordinator c.settings.group commit.id) p
              ∙ (λ i. owns i && granted_now p r has_r owns i);
          within = λ p there.
              sym (has-held at.grants commit.id p)
              ∙ ap (λ (s : Partitions). has s p) (sym (granted_at w.coordinator c.settings.group commit.id))
              ∙ second_so (has c.own p) (has (granted w.coordinator c.settings.group commit.id) p) (sym (has-common partition_cmp_total c.own (granted w.coordinator c.settings.group commit.id) p) ∙ there);
          lags = subst (λ (k : Text). Lags at (clients_of w.clients c.settings.group) k c.epoch) (sym same_id) (known.lags m is_id);
        }

    commits_by : (b : Bool) (topics : List CommitRequestTopicValue) → SpellsRequest (commit_for c (suc (length w.commits)) topics) body
        → (outcome : Outcome) (after : World) → CommitsBy b w commit outcome after → Keeps after
    commits_by false topics spells outcome after is = subst Keeps (sym is.1) keeps
    commits_by true topics spells outcome after is =
        subst Keeps (sym is.1)
        (with_commit_keeps w keeps (cut w.coordinator commit) (record { number = suc (length w.commits); topics = topics; spells = spells; keeps = commit_keeps }))

  inside_of : (place : Place) → may_commit_at place ≡ true → place ≡ Inside
  inside_of Outside may = absurd (true≢false (sym may))
  inside_of Inside may = refl
  inside_of Gone may = absurd (true≢false (sym may))

  commits_if : (b : Bool) → may_commit c (suc (length w.commits)) ≡ b → (topics : List CommitRequestTopicValue) (outcome : Outcome) (after : World) → CommitsIf b c w topics outcome after → Keeps after
  commits_if false may topics outcome after is = subst Keeps (sym is.1) keeps
  commits_if true may topics outcome after (body, spells, is) =
      let inside = known.inside (inside_of c.place (first_so (may_commit_at c.place) (nat_le (suc (length w.commits)) GREATEST_NUMBER) may)) in
      commits_by inside.0 inside.1 body (fits_frame body) topics spells outcome after is

-- ---- any act

module _ (one_request : OneRequestABody) (one_reply : OneReplyABody) (steps_sound : StepsAreSound Step) (every : EveryGroupIsSound) where
  module _ (w : World) (keeps : Keeps w) (outcome : Outcome) (new : World) where
    asks_step : (n : ℕ) (ask : Ask) (o : Option Client) → numbered w.clients n ≡ o → AsksStep o w n ask outcome new → Keeps new
    asks_step n ask None none is = subst Keeps (sym is.1) keeps
    asks_step n ask (Some c) there is = asks_if w keeps n c there (may_ask c ask) ask outcome new is

    gives_up_step : (n : ℕ) (o : Option Client) → numbered w.clients n ≡ o → GivesUpStep o w n outcome new → Keeps new
    gives_up_step n None none is = subst Keeps (sym is.1) keeps
    gives_up_step n (Some c) there is = gives_up w keeps n c there c.waits outcome new is

    release_step : (n : ℕ) (p : Partition) (o : Option Client) → numbered w.clients n ≡ o → ReleaseStep o w n p outcome new → Keeps new
    release_step n p None none is = subst Keeps (sym is.1) keeps
    release_step n p (Some c) there is = releases w keeps n c there (may_release c) p outcome new is

    deliver_step : (k : ℕ) (o : Option Request) → numbered w.requests k ≡ o → DeliverStep o w outcome new → Keeps new
    deliver_step k None none is = subst Keeps (sym is.1) keeps
    deliver_step k (Some q) there is = delivers one_request one_reply steps_sound every w keeps q (numbered_in w.requests k q there) outcome new is

    taken_as : (taken : Bool) (r : Reply) → Contains w.replies r → (c : Client) → numbered w.clients r.request.sender ≡ Some c → (after : Client)
        → TakesIf c.waits c r.body taken after → TakenAs taken w r.request.sender after outcome new → Keeps new
    taken_as true r pooled c there after takes is = subst Keeps (sym is.1) (takes_if w keeps r.request.sender c there c.waits refl r pooled refl after takes)
    taken_as false r pooled c there after takes is = subst Keeps (sym is.1) keeps

    take_by : (r : Reply) → Contains w.replies r → (o : Option Client) → numbered w.clients r.request.sender ≡ o → TakeBy o r w outcome new → Keeps new
    take_by r pooled None none is = absurd is
    take_by r pooled (Some c) there (taken, after, takes, is) = taken_as taken r pooled c there after takes is

    take_step : (j : ℕ) (o : Option Reply) → numbered w.replies j ≡ o → TakeStep o w outcome new → Keeps new
    take_step j None none is = subst Keeps (sym is.1) keeps
    take_step j (Some r) there is = take_by r (numbered_in w.replies j r there) (numbered w.clients r.request.sender) refl is

    commits_step : (n : ℕ) (topics : List CommitRequestTopicValue) (o : Option Client) → numbered w.clients n ≡ o → CommitsStep o w topics outcome new → Keeps new
    commits_step n topics None none is = subst Keeps (sym is.1) keeps
    commits_step n topics (Some c) there is = commits_if w keeps n c there (may_commit c (suc (length w.commits))) refl topics outcome new is

    bring_step : (k : ℕ) (o : Option Commit) → numbered w.commits k ≡ o → BringStep o w outcome new → Keeps new
    bring_step k None none is = subst Keeps (sym is.1) keeps
    bring_step k (Some commit) there is = brings one_request one_reply steps_sound every w keeps commit (numbered_in w.commits k commit there) outcome new is

  pub act_keeps : (w : World) → Keeps w → (act : Act) (outcome : Outcome) (new : World) → ActStep w act outcome new → Keeps new
  act_keeps w keeps (Asks n ask) outcome new is = asks_step w keeps outcome new n ask (numbered w.clients n) refl is
  act_keeps w keeps (GivesUp n) outcome new is = gives_up_step w keeps outcome new n (numbered w.clients n) refl is
  act_keeps w keeps (Deliver k) outcome new is = deliver_step w keeps outcome new k (numbered w.requests k) refl is
  act_keeps w keeps (Take j) outcome new is = take_step w keeps outcome new j (numbered w.replies j) refl is
  act_keeps w keeps (Release n p) outcome new is = release_step w keeps outcome new n p (numbered w.clients n) refl is
  act_keeps w keeps (Commits n topics) outcome new is = commits_step w keeps outcome new n topics (numbered w.clients n) refl is
  act_keeps w keeps (Bring k) outcome new is = bring_step w keeps outcome new k (numbered w.commits k) refl is
  act_keeps w keeps (Clock moment) outcome new is = subst Keeps (sym is.1) (clocked one_request one_reply steps_sound every w keeps moment)
  act_keeps w keeps (Passes moment) outcome new is = passes one_request one_reply steps_sound every w keeps moment outcome new is
  act_keeps w keeps (Sees image) outcome new is = sees one_request one_reply steps_sound every w keeps image outcome new is

  -- ---- the first world

  module _ (salt : ℕ) (settings : List Settings) where
    abbrev Start : World
    Start = new_world salt settings

    fresh : (name : Text) → group_at Start.coordinator name ≡ new_group salt
    fresh name = group_none Start.coordinator name (finite.get-empty text_cmp name)

    unseen : (m : Text) (s : Stamp) → Seen (new_group salt) m s → ⊥
    unseen m s (inl (r, there, is)) = not_none r (sym (finite.get-empty text_cmp m) ∙ there)
    unseen m s (inr past) = to_in [] (m, s) past

    start_group : (name : Text) → GroupKeeps (new_group salt) (clients_of Start.clients name)
    start_group name =
        record {
          sound = every salt 0 (omega arith) [] (new_group salt) refl;
          made = λ m s seen. absurd (unseen m s seen);
          owner = λ m s seen. absurd (unseen m s seen);
          instance = λ m r c there is. absurd (not_none r (sym (finite.get-empty text_cmp m) ∙ there));
          away = λ m r c there gone is. absurd (not_none r (sym (finite.get-empty text_cmp m) ∙ there));
          settings = λ m r c there is. absurd (not_none r (sym (finite.get-empty text_cmp m) ∙ there));
        }

    start_client : (g : Group) (name : Text) (n : ℕ) (s : Settings) → ClientKeeps g (clients_of Start.clients name) n (new_client s)
    start_client g name n s =
        record {
          its = λ m is. absurd (not_none m is);
          holds = λ m r p is there owns. absurd (not_none m is);
          behind = λ m r is there. absurd (not_none m is);
          below = omega arith;
          lags = λ m is. absurd (not_none m is);
          inside = λ inside. absurd (true≢false (sym (ap is_inside inside)));
          empty = λ out. refl;
          outside = λ out. refl;
          gone = λ gone. refl;
        }

    pub start_keeps : Keeps Start
    start_keeps =
        record {
          image = empty-AreImageTopics;
          groups = λ name. subst (λ (g : Group). GroupKeeps g (clients_of Start.clients name)) (sym (fresh name)) (start_group name);
          clients = λ n c is.
              let was = numbered_map new_client settings n c is in
              subst (λ (x : Client). ClientKeeps (group_at Start.coordinator x.settings.group) (clients_of Start.clients x.settings.group) n x) was.2
              (start_client (group_at Start.coordinator was.0.group) was.0.group n was.0);
          requests = λ q there. absurd (to_in [] q there);
          replies = λ r c number m epoch shown there. absurd (to_in [] r there);
          takers = λ r there. absurd (to_in [] r there);
          commits = λ k there. absurd (to_in [] k there);
        }

  -- ---- every list of acts

  pub run_keeps : (acts : List Act) (outcomes : List Outcome) (w new : World) → Keeps w → Run w acts outcomes new → Keeps new
  run_keeps [] [] w new keeps is = subst Keeps (sym is) keeps
  run_keeps [] (outcome ∷ outcomes) w new keeps is = absurd is
  run_keeps (act ∷ acts) [] w new keeps is = absurd is
  run_keeps (act ∷ acts) (outcome ∷ outcomes) w new keeps (middle, step, later) = run_keeps acts outcomes middle new (act_keeps w keeps act outcome middle step) later

  pub always_keeps : Always Keeps
  always_keeps salt settings acts outcomes w run = run_keeps acts outcomes (new_world salt settings) w (start_keeps salt settings) run
