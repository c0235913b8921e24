-- A world over replicas is one that acts lead to, with other stamps.
use Rattle.std.proofs.Common.{◌≡◌, ℕ, List, [], ◌∷◌, ◌++◌, map, Option, Some, Ok, Err, inl, inr, refl, sym, ap, subst, ◌∙◌}
use Rattle.kip_msgs.specs.Values.{HeartbeatRequestValue, RequestHeaderValue, RequestValue, commit_request, heartbeat_request}
use Rattle.kip_msgs.specs.Spelling.{SpellsRequest}
use Rattle.kip_msgs.specs.Laws.{OneRequestABody}
use Rattle.topic_meta.specs.Images.{topics_of}
use Rattle.group_types.specs.declared.stamp.Stamp.{Stamp}
use Rattle.coord_node.specs.Coordinator.{Answer, Coordinator, Done, Event, Frame, Image, Tick, opening}
use Rattle.coord_node.specs.Steps.{Step}
use Rattle.coord_node.specs.Laws.{OneAnswer}
use Rattle.member_core.specs.Settings.{Settings}
use Rattle.member_core.specs.Client.{Client, new_client}
use Rattle.member_core.specs.Asking.{header_of}
use Rattle.member_core.specs.Committing.{commit_value}
use Rattle.replica_entries.specs.Values.{ContentValue, EntryValue, frame, image, leads, tick}
use Rattle.coord_replica.specs.Applying.{Applies, EventStep, Fate, Logged, PassedOver, Taken, moment_after}
use Rattle.coord_replica.specs.Entries.{event_under, stamp_under}
use Rattle.coord_replica.specs.Replicas.{LogState}
use Rattle.world_sim.specs.World.{Commit, Request, World, new_world, numbered, with_coordinator}
use Rattle.world_sim.specs.Acts.{Act, ActStep, Bring, BringStep, Clock, Deliver, DeliverStep, DeliversIf, IsDone, IsRemoved, Outcome, Passes, Run, Sees, is_forgotten, no_stamp}
use Rattle.world_sim.specs.Exclusivity.{Always}
use Rattle.world_sim.specs.Invariant.{Committed, Keeps}
use Rattle.world_sim.proofs.Numbered.{numbered_in}
use Rattle.group_types.proofs.ListLemmas.{In}
use Rattle.replica_worlds.specs.ReplicaWorlds.{AreStamped, Brings, Delivers, Does, Goes, GoesOn, IsBrought, IsClients, IsDelivered, ReplicaAct, ReplicaRun, ReplicaStep, ReplicaWorld, Shows, ShowsTaken, new_replica_world, over_log, stamp_in, stamp_of_entry, world_of}
use Rattle.replica_worlds.specs.Laws.{IsLedTo, OverReplicas}
use Rattle.replica_worlds.specs.Unstamped.{restamped}
use Rattle.replica_worlds.proofs.WithValues.{empty_changed}
use Rattle.replica_worlds.proofs.RestampedMembers.{group_of}
use Rattle.replica_worlds.proofs.RestampedNodes.{commit_frame_as, forgotten_as, frame_as, image_as, tick_as, unstamped_as}
use Rattle.replica_worlds.proofs.Pools.{PoolKeeps, empty_pool, run_grows, run_pool}
use Rattle.replica_worlds.proofs.CameUnder.{came_kept, came_world, kept_stamp, world_of_came, world_stamp}
use Rattle.replica_worlds.proofs.Shadows.{answers_as, client_as, goes_as, pools_as, shadow}
use Rattle.replica_worlds.proofs.SeenStamps.{agrees, agrees_kept}

-- ---- what acts lead to

pub record IsLed (salt : ℕ) (settings : List Settings) (w : World) : Type 0 where
  pub acts : List Act
  pub outcomes : List Outcome
  pub run : Run (new_world salt settings) acts outcomes w

one_more : (acts : List Act) (outcomes : List Outcome) (w middle new : World) (act : Act) (outcome : Outcome)
    → Run w acts outcomes middle → ActStep middle act outcome new → Run w (acts ++ act ∷ []) (outcomes ++ outcome ∷ []) new
one_more [] [] w middle new act outcome is step = (new, subst (λ (x : World). ActStep x act outcome new) is step, refl)
one_more [] (o ∷ os) w middle new act outcome never step = absurd never
one_more (a ∷ acts) [] w middle new act outcome never step = absurd never
one_more (a ∷ acts) (o ∷ os) w middle new act outcome run step = (run.0, run.1, one_more acts os run.0 middle new act outcome run.2 step)

led_on : (salt : ℕ) (settings : List Settings) (w new : World) (act : Act) (outcome : Outcome) → IsLed salt settings w → ActStep w act outcome new → IsLed salt settings new
led_on salt settings w new act outcome led step =
    record {
      acts = led.acts ++ act ∷ [];
      outcomes = led.outcomes ++ outcome ∷ [];
      run = one_more led.acts led.outcomes (new_world salt settings) w new act outcome led.run step;
    }

-- ---- a coordinator that has only stamps that stay

pub opening_as : (other : Stamp → Stamp) (salt : ℕ) → restamped other (opening salt) ≡ opening salt
opening_as other salt = λ i. record (opening salt) { groups = empty_changed (group_of other) i }

-- it keeps only such where the step is one with them, too
stays_so : OneAnswer → (other : Stamp → Stamp) (c : Coordinator) → restamped other c ≡ c → (event : Event) (answer : Answer) (new : Coordinator)
    → Step c event answer new → Step (restamped other c) event answer (restamped other new) → restamped other new ≡ new
stays_so one_answer other c same event answer new step again =
    (one_answer c event answer answer (restamped other new) new (subst (λ (x : Coordinator). Step x event answer (restamped other new)) same again) step).1

-- ---- the simulation

module _ (one_request : OneRequestABody) (one_answer : OneAnswer) (always : Always Keeps) (salt : ℕ) (settings : List Settings)
    (acts : List ReplicaAct) (requests : List Request) (clients : List Client) (stamped : AreStamped acts requests) (pool : PoolKeeps clients requests) where
  abbrev pub to_world : Stamp → Stamp
  to_world = world_stamp acts requests

  abbrev stays : Stamp → Stamp
  stays = kept_stamp acts requests

  pub record Follows (s : ReplicaWorld) : Type 0 where
    pub led : IsLed salt settings (shadow to_world s)
    pub tracked : restamped stays s.log.coordinator ≡ s.log.coordinator

  abbrev pub clocked : ReplicaWorld → ℕ → World
  clocked s moment = record (shadow to_world s) { clock = moment }

  pub led_clocked : (s : ReplicaWorld) (moment : ℕ) → IsLed salt settings (shadow to_world s) → IsLed salt settings (clocked s moment)
  led_clocked s moment led = led_on salt settings (shadow to_world s) (clocked s moment) (Clock moment) IsDone led (refl, refl)

  -- a step is an act of the world, at some moment, and leaves only stamps that stay
  pub record Steps (s t : ReplicaWorld) : Type 0 where
    pub moment : ℕ
    pub act : Act
    pub shown : Outcome
    pub step : ActStep (clocked s moment) act shown (shadow to_world t)
    pub tracked : restamped stays t.log.coordinator ≡ t.log.coordinator

  module _ (s : ReplicaWorld) (follows : Follows s) (outcome : Outcome) (t : ReplicaWorld) where
    known : Keeps (shadow to_world s)
    known = always salt settings follows.led.acts follows.led.outcomes (shadow to_world s) follows.led.run

    abbrev node : Coordinator
    node = s.log.coordinator

    -- ---- a client does something

    does : (act : Act) (after : World) → IsClients act → ActStep (world_of s) act outcome after → t ≡ over_log s.log after → Steps s t
    does act after own step becomes =
        let over : Steps s (over_log s.log after) =
        record { moment = s.log.moment; act = act; shown = outcome; step = client_as to_world s act outcome after own step; tracked = follows.tracked }
        in
        subst (Steps s) (sym becomes) over

    -- ---- a request is delivered

    module _ (k : ℕ) (e : EntryValue) (d : IsDelivered s k e outcome t) (came : In acts (Delivers k e)) (pooled : numbered requests k ≡ Some d.request) where
      abbrev at : ℕ
      at = d.came.moment

      moment : d.log.moment ≡ at
      moment = d.takes.moment ∙ ap (moment_after s.log.moment) d.is_frame

      stamp : stamp_under e.leadership d.came.connection d.came.number ≡ stamp_of_entry e
      stamp = ap (stamp_in e.leadership) (sym d.is_frame)

      step : Step node (Frame d.request.body (stamp_of_entry e) at) d.answer d.log.coordinator
      step =
          subst (λ (b : List ℕ). Step node (Frame b (stamp_of_entry e) at) d.answer d.log.coordinator) d.body
          (subst (λ (x : Stamp). Step node (Frame d.came.body x at) d.answer d.log.coordinator) stamp
          (subst (λ (content : ContentValue). EventStep node (event_under e.leadership content) (Some d.answer) d.log.coordinator) d.is_frame d.takes.step))

      is_stamp : to_world (stamp_of_entry e) ≡ d.request.stamp
      is_stamp = came_world acts requests (stamp_of_entry e) d.request (world_of_came acts requests clients stamped pool k e d.request came pooled)

      in_world : Step (restamped to_world node) (Frame d.request.body d.request.stamp at) d.answer (restamped to_world d.log.coordinator)
      in_world =
          subst (λ (x : Stamp). Step (restamped to_world node) (Frame d.request.body x at) d.answer (restamped to_world d.log.coordinator)) is_stamp
          (frame_as to_world node d.request.body (stamp_of_entry e) at d.answer d.log.coordinator
          (agrees one_request acts requests clients stamped pool s known follows.tracked k e d.request came d.is_pooled pooled) step)

      delivers : DeliversIf (is_forgotten (restamped to_world node) d.heartbeat) (record (shadow to_world s) { clock = at }) d.request outcome (shadow to_world (over_log d.log d.after))
      delivers =
          subst (λ b. DeliversIf b (record (shadow to_world s) { clock = at }) d.request outcome (shadow to_world (over_log d.log d.after)))
          (sym (forgotten_as to_world node d.heartbeat ∙ d.remembered))
          (d.answer, restamped to_world d.log.coordinator, in_world, pools_as to_world s at d.log moment d.request d.answer outcome d.after d.pools)

      delivered : ActStep (record (shadow to_world s) { clock = at }) (Deliver k) outcome (shadow to_world (over_log d.log d.after))
      delivered =
          subst (λ (o : Option Request). DeliverStep o (record (shadow to_world s) { clock = at }) outcome (shadow to_world (over_log d.log d.after))) (sym d.is_pooled)
          (d.header, d.heartbeat, d.spells, delivers)

      stays_tracked : restamped stays d.log.coordinator ≡ d.log.coordinator
      stays_tracked =
          let same : stays (stamp_of_entry e) ≡ stamp_of_entry e = came_kept acts requests (stamp_of_entry e) d.request (world_of_came acts requests clients stamped pool k e d.request came pooled) in
          stays_so one_answer stays node follows.tracked (Frame d.request.body (stamp_of_entry e) at) d.answer d.log.coordinator step
          (subst (λ (x : Stamp). Step (restamped stays node) (Frame d.request.body x at) d.answer (restamped stays d.log.coordinator)) same
          (frame_as stays node d.request.body (stamp_of_entry e) at d.answer d.log.coordinator (agrees_kept stays node follows.tracked d.request.body (stamp_of_entry e) same) step))

      delivers_steps : Steps s t
      delivers_steps =
          let over : Steps s (over_log d.log d.after) = record { moment = at; act = Deliver k; shown = outcome; step = delivered; tracked = stays_tracked } in
          subst (Steps s) (sym d.becomes) over

    -- ---- a commit is brought

    module _ (k : ℕ) (e : EntryValue) (b : IsBrought s k e outcome t) where
      abbrev brought_at : ℕ
      brought_at = b.came.moment

      brought_moment : b.log.moment ≡ brought_at
      brought_moment = b.takes.moment ∙ ap (moment_after s.log.moment) b.is_frame

      abbrev commit_stamp : Stamp
      commit_stamp = stamp_under e.leadership b.came.connection b.came.number

      commit_step : Step node (Frame b.commit.body commit_stamp brought_at) b.answer b.log.coordinator
      commit_step =
          subst (λ (body : List ℕ). Step node (Frame body commit_stamp brought_at) b.answer b.log.coordinator) b.body
          (subst (λ (content : ContentValue). EventStep node (event_under e.leadership content) (Some b.answer) b.log.coordinator) b.is_frame b.takes.step)

      committed : Committed (shadow to_world s).coordinator s.clients b.commit
      committed = known.commits b.commit (numbered_in s.commits k b.commit b.is_pooled)

      no_heartbeat : (header : RequestHeaderValue) (v : HeartbeatRequestValue) → SpellsRequest (heartbeat_request header v) b.commit.body → ⊥
      no_heartbeat header v spells =
          let message : RequestValue = commit_request (header_of committed.number) (commit_value b.commit.group b.commit.id b.commit.epoch committed.topics) in
          let same : heartbeat_request header v ≡ message = one_request (heartbeat_request header v) message b.commit.body spells committed.spells in
          cc

      pub brought : ActStep (record (shadow to_world s) { clock = brought_at }) (Bring k) outcome (shadow to_world (over_log b.log b.after))
      brought =
          subst (λ (o : Option Commit). BringStep o (record (shadow to_world s) { clock = brought_at }) outcome (shadow to_world (over_log b.log b.after))) (sym b.is_pooled) (
            b.answer,
            restamped to_world b.log.coordinator,
            commit_frame_as to_world node b.commit.body commit_stamp no_stamp brought_at b.answer b.log.coordinator no_heartbeat commit_step,
            answers_as to_world s brought_at b.log brought_moment b.answer outcome b.after b.answers,
          )

      brings_steps : Steps s t
      brings_steps =
          let tracked = stays_so one_answer stays node follows.tracked (Frame b.commit.body commit_stamp brought_at) b.answer b.log.coordinator commit_step
          (commit_frame_as stays node b.commit.body commit_stamp commit_stamp brought_at b.answer b.log.coordinator no_heartbeat commit_step) in
          let over : Steps s (over_log b.log b.after) = record { moment = brought_at; act = Bring k; shown = outcome; step = brought; tracked = tracked } in
          subst (Steps s) (sym b.becomes) over

    -- ---- something else comes

    module _ (place : Logged) (g : GoesOn s place outcome t) where
      abbrev After : ReplicaWorld
      After = over_log g.log (with_coordinator (world_of s) g.log.coordinator)

      -- by an event of the coordinator
      event_steps : (act : Act) (shown : Outcome) (event : Event) (answer : Answer) (now : ℕ) → g.log.moment ≡ now
          → Step node event answer g.log.coordinator → ((other : Stamp → Stamp) → Step (restamped other node) event answer (restamped other g.log.coordinator))
          → (Step (restamped to_world node) event answer (restamped to_world g.log.coordinator) → ActStep (shadow to_world s) act shown (with_coordinator (record (shadow to_world s) { clock = now }) (restamped to_world g.log.coordinator)))
          → Steps s t
      event_steps act shown event answer now moment step natural acts_so =
          let gone : shadow to_world After ≡ with_coordinator (record (shadow to_world s) { clock = now }) (restamped to_world g.log.coordinator) = goes_as to_world s now g.log moment in
          let over : Steps s After =
          record {
            moment = s.log.moment;
            act = act;
            shown = shown;
            step = subst (λ (x : World). ActStep (shadow to_world s) act shown x) (sym gone) (acts_so (natural to_world));
            tracked = stays_so one_answer stays node follows.tracked event answer g.log.coordinator step (natural stays);
          }
          in
          subst (Steps s) (sym g.becomes) over

      -- nothing comes to the coordinator
      quiet : g.log.coordinator ≡ node → g.log.moment ≡ s.log.moment → Steps s t
      quiet same when =
          let seen : Step node (Image node.image) (Done 0) g.log.coordinator = (refl, same, known.image) in
          event_steps (Sees node.image) IsDone (Image node.image) (Done 0) s.log.moment when seen (λ other. image_as other node node.image (Done 0) g.log.coordinator seen)
          (λ so. (restamped to_world g.log.coordinator, so, (refl, refl)))

      comes : (leadership : ℕ) (content : ContentValue) (answer : Option Answer) → ShowsTaken content answer outcome
          → EventStep node (event_under leadership content) answer g.log.coordinator → g.log.moment ≡ moment_after s.log.moment content → Steps s t
      comes leadership (frame f) answer shows taken when = absurd shows
      comes leadership (tick now) answer (removed, answers, shown) taken when =
          let ticked : Step node (Tick now) (Done removed) g.log.coordinator = subst (λ (x : Option Answer). EventStep node (Some (Tick now)) x g.log.coordinator) answers taken in
          event_steps (Passes now) (IsRemoved removed) (Tick now) (Done removed) now when ticked (λ other. tick_as other node now (Done removed) g.log.coordinator ticked)
          (λ so. (removed, restamped to_world g.log.coordinator, so, (refl, refl)))
      comes leadership (image topics) answer (answers, shown) taken when =
          let seen : Step node (Image (topics_of topics)) (Done 0) g.log.coordinator = subst (λ (x : Option Answer). EventStep node (Some (Image (topics_of topics))) x g.log.coordinator) answers taken in
          event_steps (Sees (topics_of topics)) IsDone (Image (topics_of topics)) (Done 0) s.log.moment when seen (λ other. image_as other node (topics_of topics) (Done 0) g.log.coordinator seen)
          (λ so. (restamped to_world g.log.coordinator, so, (refl, refl)))
      comes leadership leads answer (answers, shown) taken when = quiet taken.1 when

      by_fate : (at : Logged) (fate : Fate) → Applies s.log at fate g.log → Shows fate at outcome → Steps s t
      by_fate (Ok e) (Taken answer) takes shows = comes e.leadership e.content answer shows takes.step takes.moment
      by_fate (Err fault) (Taken answer) takes shows = absurd takes
      by_fate _ (PassedOver fault) passes shows =
          quiet (ap (λ (x : LogState). x.coordinator) passes.becomes) (ap (λ (x : LogState). x.moment) passes.becomes)

      goes_steps : Steps s t
      goes_steps = by_fate place g.fate g.applies g.shows

  pub steps : (s t : ReplicaWorld) (act : ReplicaAct) (outcome : Outcome) → Follows s → In acts act
      → ((k : ℕ) (q : Request) → numbered s.requests k ≡ Some q → numbered requests k ≡ Some q) → ReplicaStep s act outcome t → Steps s t
  steps s t (Does act) outcome follows there grows (own, after, step, becomes) = does s follows outcome t act after own step becomes
  steps s t (Delivers k e) outcome follows there grows d = delivers_steps s follows outcome t k e d there (grows k d.request d.is_pooled)
  steps s t (Brings k e) outcome follows there grows b = brings_steps s follows outcome t k e b
  steps s t (Goes at) outcome follows there grows g = goes_steps s follows outcome t at g

  step_follows : (s t : ReplicaWorld) → Follows s → Steps s t → Follows t
  step_follows s t follows x =
      record {
        led = led_on salt settings (clocked s x.moment) (shadow to_world t) x.act x.shown (led_clocked s x.moment follows.led) x.step;
        tracked = x.tracked;
      }

  pub run_follows : (some : List ReplicaAct) (outcomes : List Outcome) (s t : ReplicaWorld) → ((act : ReplicaAct) → In some act → In acts act)
      → ((k : ℕ) (q : Request) → numbered t.requests k ≡ Some q → numbered requests k ≡ Some q) → Follows s → ReplicaRun s some outcomes t → Follows t
  run_follows [] [] s t within grows follows is = subst Follows (sym is) follows
  run_follows [] (outcome ∷ outcomes) s t within grows follows is = absurd is
  run_follows (act ∷ some) [] s t within grows follows is = absurd is
  run_follows (act ∷ some) (outcome ∷ outcomes) s t within grows follows (middle, step, later) =
      run_follows some outcomes middle t (λ x there. within x (inr there)) grows
      (step_follows s middle follows (steps s middle act outcome follows (within act (inl refl))
      (λ k q there. grows k q (run_grows (act ∷ some) (outcome ∷ outcomes) s t (middle, step, later) k q there)) step))
      later

  pub start_follows : Follows (new_replica_world salt settings)
  start_follows =
      let start : shadow to_world (new_replica_world salt settings) ≡ new_world salt settings = λ i. record (new_world salt settings) { coordinator = opening_as to_world salt i } in
      record {
        led = subst (IsLed salt settings) (sym start) (record { acts = []; outcomes = []; run = refl });
        tracked = opening_as stays salt;
      }

-- ---- every world over replicas

module _ (one_request : OneRequestABody) (one_answer : OneAnswer) (always : Always Keeps) (salt : ℕ) (settings : List Settings)
    (acts : List ReplicaAct) (outcomes : List Outcome) (s : ReplicaWorld) (run : ReplicaRun (new_replica_world salt settings) acts outcomes s) (stamped : AreStamped acts s.requests) where
  pool : PoolKeeps s.clients s.requests
  pool = run_pool acts outcomes (new_replica_world salt settings) s run (empty_pool (map new_client settings))

  -- the stamps that it has as a world
  abbrev pub stamps : Stamp → Stamp
  stamps = world_stamp acts s.requests

  pub led : IsLed salt settings (shadow stamps s)
  led =
      (run_follows one_request one_answer always salt settings acts s.requests s.clients stamped pool acts outcomes (new_replica_world salt settings) s
      (λ act there. there) (λ k q there. there)
      (start_follows one_request one_answer always salt settings acts s.requests s.clients stamped pool) run).led

  pub led_to : IsLedTo salt settings (world_of s)
  led_to =
      record {
        world = shadow stamps s;
        acts = led.acts;
        outcomes = led.outcomes;
        run = led.run;
        alike = record { coordinator = unstamped_as stamps s.log.coordinator; clock = refl; clients = refl; requests = refl; replies = refl; commits = refl };
      }

-- what holds of every world holds of every one over replicas, where it holds of a world as it does of the world with other stamps
pub always_back : OneRequestABody → OneAnswer → Always Keeps → (Holds : World → Type 0) → ((other : Stamp → Stamp) (s : ReplicaWorld) → Holds (shadow other s) → Holds (world_of s))
    → Always Holds → OverReplicas Holds
always_back one_request one_answer always Holds back so salt settings acts outcomes s run stamped =
    let is = led one_request one_answer always salt settings acts outcomes s run stamped in
    back (world_stamp acts s.requests) s (so salt settings is.acts is.outcomes (shadow (world_stamp acts s.requests) s) is.run)
