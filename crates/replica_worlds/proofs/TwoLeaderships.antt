-- A world over replicas in which a client joins under one leadership, and takes the reply under the next.
use Rattle.std.proofs.Common.{◌≡◌, ℕ, Bool, true, false, List, [], ◌∷◌, map, nat_lt, Option, Some, None, Ok, is_some, inl, inr, refl, sym, ap, subst, ◌∙◌, arith}
use Rattle.std.specs.Option.{option_map}
use Rattle.std.specs.FinMap as finite
use Rattle.kip_msgs.specs.Values.{HeartbeatRequestValue, RequestHeaderValue, heartbeat_request}
use Rattle.kip_msgs.specs.Spelling.{SpellsRequest}
use Rattle.topic_meta.specs.Images.{Entry, topics_of}
use Rattle.group_types.specs.declared.stamp.Stamp.{Stamp}
use Rattle.group_types.specs.Limits.{MOST_GROUPS}
use Rattle.group_types.specs.Text.{text_cmp}
use Rattle.group_types.specs.Images.{AreImageTopics}
use Rattle.group_types.specs.Group.{Group}
use Rattle.group_types.specs.HeartbeatStep as group
use Rattle.group_types.proofs.ListLemmas.{In, to_in}
use Rattle.group_types.proofs.Lookups.{get-inserted, not_none, some_is}
use Rattle.coord_node.specs.Coordinator.{Answer, Closes, Coordinator, Done, Frame, Replied, opening}
use Rattle.coord_node.specs.Steps.{HeartbeatAt, Makes, Step, has_room}
use Rattle.member_core.specs.Settings.{Settings}
use Rattle.member_core.specs.Client.{state_of}
use Rattle.member_core.specs.Asking.{Join}
use Rattle.replica_entries.specs.Values.{EntryValue, frame, image, leads}
use Rattle.replica_snapshots.proofs.ImageLaws.{entry_for, image_of_topics, image_without_fault}
use Rattle.coord_replica.specs.Entries.{stamp_under}
use Rattle.coord_replica.specs.Faults.{fault_of_topics}
use Rattle.coord_replica.specs.Applying as applying
use Rattle.coord_replica.specs.Replicas.{LogState, log_opening}
use Rattle.world_sim.specs.World.{Request, World, new_world, numbered, with_coordinator}
use Rattle.world_sim.specs.Acts.{ActStep, Asks, Deliver, DeliversIf, Is, IsDone, IsRefused, IsReplied, IsSent, Outcome, Pools, Take, is_forgotten}
use Rattle.world_sim.specs.Holding.{HasRecord}
use Rattle.world_sim.specs.Examples.{Holder}
use Rattle.world_sim.proofs.Newcomers.{GROUP, arrival_of, client_of, id_of, kept_of, partition_of, reply_to, settings_of}
use Rattle.world_sim.proofs.NewcomerMessages.{answering, asked_by, asking, asks, delivers, inside_of, join_in, sent_in, takes, taking, value_in}
use Rattle.world_sim.proofs.TwoNewcomers.{AfterOne, One, Two, TwoTopics, one_joins, one_spelled, two_are_images}
use Rattle.world_sim.proofs.TwoHolders.{OneIn, of_one, owns}
use Rattle.replica_worlds.specs.ReplicaWorlds.{AreStamped, Came, Delivers, Does, Goes, ReplicaAct, ReplicaRun, ReplicaWorld, new_replica_world, over_log, stamp_of_entry, world_of}
use Rattle.replica_worlds.specs.Unstamped.{restamped}
use Rattle.replica_worlds.specs.Examples.{SomebodyHoldsOverLeaderships}
use Rattle.replica_worlds.proofs.RestampedNodes.{Agrees, frame_as}
use Rattle.replica_worlds.proofs.Shadows.{pools_as, shadow}
use Rattle.replica_worlds.proofs.Simulated.{opening_as}
use Rattle.replica_worlds.proofs.Carried.{has_record_as}

-- ---- the entries

-- the stamp under which the join comes
abbrev Joined : Stamp
Joined = stamp_under 1 1 1

abbrev all_joined : Stamp → Stamp
all_joined stamp = Joined

abbrev listed : List Entry
listed = map entry_for (finite.entries TwoTopics)

abbrev join : Request
join = sent_in One (join_in One) (asked_by One)

abbrev first_leads : EntryValue
first_leads = record { leadership = 1; content = leads }

abbrev topics_come : EntryValue
topics_come = record { leadership = 1; content = image listed }

abbrev join_comes : EntryValue
join_comes = record { leadership = 1; content = frame (record { connection = 1; number = 1; moment = 0; body = join.body }) }

abbrev second_leads : EntryValue
second_leads = record { leadership = 2; content = leads }

-- ---- what the answer to the join leaves

abbrev settings : List Settings
settings = settings_of One ∷ settings_of Two ∷ []

abbrev Seeing : Coordinator
Seeing = record (opening 0) { image = TwoTopics }

abbrev OneAsks : World
OneAsks = asking One (join_in One) (asked_by One) (with_coordinator (new_world 0 settings) Seeing)

abbrev OneIsAnswered : World
OneIsAnswered = answering One (join_in One) (asked_by One) OneAsks OneIn

room : has_room Seeing ≡ true
room = ap (λ n. nat_lt n MOST_GROUPS) (finite.len-empty text_cmp Group)

makes : Makes true (has_room Seeing) Seeing (record { name = GROUP; left = AfterOne; reply = reply_to One }) (group.Replied (reply_to One)) OneIn
makes = subst (λ b. Makes true b Seeing (record { name = GROUP; left = AfterOne; reply = reply_to One }) (group.Replied (reply_to One)) OneIn) (sym room) (refl, refl)

one_comes : HeartbeatAt (finite.get Seeing.groups GROUP) Seeing (arrival_of One TwoTopics) (group.Replied (reply_to One)) OneIn
one_comes =
    subst (λ (o : Option Group). HeartbeatAt o Seeing (arrival_of One TwoTopics) (group.Replied (reply_to One)) OneIn) (sym (finite.get-empty text_cmp GROUP))
    (group.Replied (reply_to One), AfterOne, one_joins, makes)

one_answers : ActStep OneAsks (Deliver 1) (IsReplied 1 (value_in One (join_in One))) OneIsAnswered
one_answers = delivers One (join_in One) one_spelled OneAsks (asked_by One) OneIn one_comes 1 refl refl

abbrev told : Outcome
told = IsReplied 1 (value_in One (join_in One))

-- an answer, and what it leaves
record Answered : Type 0 where
  header : RequestHeaderValue
  heartbeat : HeartbeatRequestValue
  spells : SpellsRequest (heartbeat_request header heartbeat) join.body
  remembered : is_forgotten Seeing heartbeat ≡ false
  answer : Answer
  left : Coordinator
  step : Step Seeing (Frame join.body join.stamp 0) answer left
  pools : Pools (with_coordinator OneAsks left) join answer told OneIsAnswered

not_refused : (b : Bool) (c : Coordinator) (v : HeartbeatRequestValue) → is_forgotten c v ≡ b → (w : World) → DeliversIf b w join told OneIsAnswered → (is_forgotten c v ≡ false) × DeliversIf false w join told OneIsAnswered
not_refused true c v is w refuses = let never : told ≡ IsRefused _ = refuses.0 in cc
not_refused false c v is w delivered = (is, delivered)

answered : Answered
answered =
    let d = one_answers in
    let so = not_refused (is_forgotten Seeing d.1) Seeing d.1 refl OneAsks d.3 in
    record { header = d.0; heartbeat = d.1; spells = d.2; remembered = so.0; answer = so.1.0; left = so.1.1; step = so.1.2; pools = so.1.3 }

left_is : (answer : Answer) (c : Coordinator) → Pools (with_coordinator OneAsks c) join answer told OneIsAnswered → c ≡ OneIn
left_is (Replied bytes) c p = sym (ap (λ (w : World). w.coordinator) p.5.1)
left_is Closes c p = sym (ap (λ (w : World). w.coordinator) p.1)
left_is (Done removed) c p = absurd p

seeing_as : restamped all_joined Seeing ≡ Seeing
seeing_as = λ i. record (opening_as all_joined 0 i) { image = TwoTopics }

agrees : Agrees all_joined Seeing join.body join.stamp
agrees header v g spells there = absurd (not_none g (sym (finite.get-empty text_cmp v.group_id) ∙ there))

module _ (a : Answered) where
  joins : Step Seeing (Frame join.body Joined 0) a.answer (restamped all_joined a.left)
  joins =
      subst (λ (c : Coordinator). Step c (Frame join.body Joined 0) a.answer (restamped all_joined a.left)) seeing_as
      (frame_as all_joined Seeing join.body join.stamp 0 a.answer a.left agrees a.step)

  -- ---- the worlds

  abbrev Start : ReplicaWorld
  Start = new_replica_world 0 settings

  abbrev Led : ReplicaWorld
  Led = over_log (record (log_opening 0) { applied = 1; leadership = 1 }) (with_coordinator (world_of Start) (opening 0))

  abbrev Seen : ReplicaWorld
  Seen = over_log (record { coordinator = Seeing; applied = 2; leadership = 1; moment = 0 }) (with_coordinator (world_of Led) Seeing)

  abbrev Asked : ReplicaWorld
  Asked = over_log Seen.log (asking One (join_in One) (asked_by One) (world_of Seen))

  abbrev log_there : LogState
  log_there = record { coordinator = a.left; applied = 3; leadership = 1; moment = 0 }

  abbrev log_here : LogState
  log_here = record { coordinator = restamped all_joined a.left; applied = 3; leadership = 1; moment = 0 }

  abbrev AfterJoin : World
  AfterJoin = shadow all_joined (over_log log_there OneIsAnswered)

  abbrev Inside : ReplicaWorld
  Inside = over_log log_here AfterJoin

  abbrev LedAgain : ReplicaWorld
  LedAgain = over_log (record log_here { applied = 4; leadership = 2 }) (with_coordinator (world_of Inside) log_here.coordinator)

  abbrev Taken : ReplicaWorld
  Taken = over_log LedAgain.log (taking One (join_in One) (asked_by One) (world_of LedAgain))

  abbrev acts : List ReplicaAct
  acts = Goes (Ok first_leads) ∷ Goes (Ok topics_come) ∷ Does (Asks 1 Join) ∷ Delivers 1 join_comes ∷ Goes (Ok second_leads) ∷ Does (Take 1) ∷ []

  abbrev outcomes : List Outcome
  outcomes = IsDone ∷ IsDone ∷ IsSent 1 ∷ told ∷ IsDone ∷ Is (state_of (inside_of One)) ∷ []

  topics_are : topics_of listed ≡ TwoTopics
  topics_are = image_of_topics TwoTopics

  run : ReplicaRun Start acts outcomes Taken
  run = (
    Led,
    record {
      fate = applying.Taken None;
      log = Led.log;
      applies = record { taken = refl; step = (refl, refl); applied = refl; leadership = refl; moment = refl };
      shows = (refl, refl);
      becomes = refl;
    },
    (
      Seen,
      record {
        fate = applying.Taken (Some (Done 0));
        log = Seen.log;
        applies = record {
          taken = ap (option_map fault_of_topics) (image_without_fault TwoTopics two_are_images);
          step = (refl, (λ i. record (opening 0) { image = sym topics_are i }), subst AreImageTopics (sym topics_are) two_are_images);
          applied = refl;
          leadership = refl;
          moment = refl;
        };
        shows = (refl, refl);
        becomes = refl;
      },
      (
        Asked,
        (tt, asking One (join_in One) (asked_by One) (world_of Seen), asks One (join_in One) one_spelled (world_of Seen) (client_of One) Join refl refl refl, refl),
        (
          Inside,
          record {
            request = join;
            is_pooled = refl;
            came = record { connection = 1; number = 1; moment = 0; body = join.body };
            is_frame = refl;
            body = refl;
            header = a.header;
            heartbeat = a.heartbeat;
            spells = a.spells;
            remembered = a.remembered;
            answer = a.answer;
            log = log_here;
            takes = record { taken = refl; step = joins; applied = refl; leadership = refl; moment = refl };
            after = AfterJoin;
            pools = pools_as all_joined Asked 0 log_there refl join a.answer told OneIsAnswered a.pools;
            becomes = refl;
          },
          (
            LedAgain,
            record {
              fate = applying.Taken None;
              log = LedAgain.log;
              applies = record { taken = refl; step = (refl, refl); applied = refl; leadership = refl; moment = refl };
              shows = (refl, refl);
              becomes = refl;
            },
            (
              Taken,
              (
                tt,
                taking One (join_in One) (asked_by One) (world_of LedAgain),
                takes One (join_in One) one_spelled (world_of LedAgain) (asked_by One) 1 refl refl refl refl,
                refl,
              ),
              refl,
            ),
          ),
        ),
      ),
    ),
  )

  -- ---- its stamps

  -- one request came, as one entry
  only : (k : ℕ) (e : EntryValue) → In acts (Delivers k e) → (k ≡ 1) × (e ≡ join_comes)
  only k e (inl same) = cc
  only k e (inr (inl same)) = cc
  only k e (inr (inr (inl same))) = cc
  only k e (inr (inr (inr (inl same)))) = (cc, cc)
  only k e (inr (inr (inr (inr (inl same))))) = cc
  only k e (inr (inr (inr (inr (inr (inl same)))))) = cc
  only k e (inr (inr (inr (inr (inr (inr never)))))) = absurd never

  came_only : (k : ℕ) (e : EntryValue) (q : Request) → Came acts Taken.requests k e q → (k ≡ 1) × (e ≡ join_comes)
  came_only k e q came = only k e (to_in acts (Delivers k e) came.is_delivered)

  stamped : AreStamped acts Taken.requests
  stamped =
      record {
        one = λ k e f q c d. ap stamp_of_entry ((came_only k e q c).1 ∙ sym (came_only k f q d).1);
        rise = λ j k e f q r c d same below.
            let one : j ≡ 1 = (came_only j e q c).0 in
            let other : k ≡ 1 = (came_only k f r d).0 in
            absurd (omega arith);
        apart = λ j k e f q r c d same.
            let number : j ≡ k = (came_only j e q c).0 ∙ sym (came_only k f r d).0 in
            ap (λ (x : Request). x.sender) (some_is q r (sym c.is_pooled ∙ ap (numbered Taken.requests) number ∙ d.is_pooled));
      }

  -- ---- who holds

  has_record : HasRecord OneIn GROUP (id_of One)
  has_record =
      record { group = AfterOne; of_group = of_one; has_record = ap is_some (get-inserted finite.empty (id_of One) (kept_of One)) }

  holder : Holder (world_of Taken)
  holder =
      record {
        number = 1;
        client = inside_of One;
        id = id_of One;
        member = record {
          client = refl;
          is_id = refl;
          member = has_record_as all_joined a.left GROUP (id_of One) (subst (λ (c : Coordinator). HasRecord c GROUP (id_of One)) (sym (left_is a.answer a.left a.pools)) has_record);
        };
        partition = partition_of One;
        holds = owns One;
      }

  held : SomebodyHoldsOverLeaderships
  held = record { salt = 0; clients = settings; acts = acts; outcomes = outcomes; world = Taken; run = run; stamped = stamped; leaderships = refl; holder = holder }

pub somebody_holds_over_leaderships : SomebodyHoldsOverLeaderships
somebody_holds_over_leaderships = held answered
