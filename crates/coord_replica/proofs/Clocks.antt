-- No group has used a later moment than the log's.
use Rattle.std.proofs.Common.{◌≡◌, inl, inr, ℕ, ◌≤◌, Bool, true, false, max, List, [], ◌∷◌, Option, option_map, Some, None, Ok, Err, refl, sym, ap, subst, ◌∙◌, arith}
use Rattle.std.specs.FinMap as finite
use Rattle.kip_msgs.specs.Values.{RequestValue, heartbeat_request, commit_request}
use Rattle.group_types.specs.declared.stamp.Stamp.{Stamp}
use Rattle.group_types.specs.Text.{Text, text_cmp}
use Rattle.group_types.specs.Group.{Group, new_group}
use Rattle.group_types.specs.Tick.{ticked}
use Rattle.group_types.specs.Commit.{Commit, CommitReply}
use Rattle.group_types.specs.HeartbeatStep.{Arrival, HeartbeatStep}
use Rattle.group_types.specs.HeartbeatStep as group
use Rattle.group_types.specs.Laws.{EveryGroupIsSound}
use Rattle.group_types.specs.Sound.{IsSound}
use Rattle.group_types.proofs.Accepted.{Came, came, has_left, taken_in, unchanged, went_away}
use Rattle.group_types.proofs.ClocksGo.{clocks_go_on}
use Rattle.group_types.proofs.Consistent.{consistent}
use Rattle.group_types.proofs.Lookups.{Found, another, found, not_none, some_is, this}
use Rattle.group_epochs.specs.Request.{arrival_of, commit_of}
use Rattle.coord_node.specs.Coordinator.{Answer, Coordinator, Event, Frame, Image, Tick}
use Rattle.coord_node.specs.EachGroup.{TicksAreOfAllGroups}
use Rattle.coord_node.specs.Laws.{IsServing, StepsAreSound}
use Rattle.coord_node.specs.Steps.{CommitAt, HeartbeatAt, Makes, MakesBy, RequestStep, Step, has_room, is_success, with_group}
use Rattle.coord_node.proofs.SoundGroups.{opening_serves}
use Rattle.topic_meta.specs.Images.{topics_of}
use Rattle.replica_entries.specs.Values.{ContentValue, frame, image, leads, tick}
use Rattle.coord_replica.specs.Applying.{EventStep, Fate, LogRun, Logged, PassedOver, Taken, moment_after}
use Rattle.coord_replica.specs.Entries.{event_under, stamp_under}
use Rattle.coord_replica.specs.Laws.{ClocksFollowTheLog, NoClockIsAhead}
use Rattle.coord_replica.specs.Replicas.{LogState, log_opening}
use Rattle.coord_replica.proofs.Refusals.{IsDue-from_refusal_of}

-- no group's clock is beyond a moment
abbrev Behind : ℕ → Coordinator → Type 0
Behind n c = (name : Text) (g : Group) → finite.get c.groups name ≡ Some g → g.clock ≤ n

-- ---- a group

beat : (g new : Group) (a : Arrival) (answer : group.Answer) (n : ℕ) → IsSound g → HeartbeatStep g a answer new → g.clock ≤ n → a.moment ≤ n → new.clock ≤ n
beat g new a answer n sound step before at = by (came g (consistent g sound) a answer new step)
  where
    maxed : new.clock ≡ max g.clock a.moment → new.clock ≤ n
    maxed is = omega arith

    by : Came g a answer new → new.clock ≤ n
    by (unchanged same fails) = let is : new.clock ≡ g.clock = ap (λ (x : Group). x.clock) same in omega arith
    by (has_left r epoch there later answers is) = maxed (ap (λ (x : Group). x.clock) is)
    by (went_away r epoch there later answers is) = maxed (ap (λ (x : Group). x.clock) is)
    by (taken_in d drafting stages takes) = maxed (ap (λ (x : Group). x.clock) stages.is_new ∙ stages.clock ∙ drafting.clock)

-- ---- a node

module _ (every : EveryGroupIsSound) (n : ℕ) (c new : Coordinator) (serving : IsServing c) (behind : Behind n c) where
  same : new ≡ c → Behind n new
  same is = subst (Behind n) (sym is) behind

  put : (name : Text) (g : Group) → g.clock ≤ n → new ≡ with_group c name g → Behind n new
  put name g le is = subst (Behind n) (sym is) put_in
    where
      by : (q : Text) (x : Group) → Found c.groups name g q x → x.clock ≤ n
      by q x (this same is) = subst (λ (y : Group). y.clock ≤ n) (sym is) le
      by q x (another other apart before) = behind q x before

      put_in : Behind n (with_group c name g)
      put_in q x there = by q x (found c.groups name g q x there)

  made : (success room : Bool) (name : Text) (g : Group) → g.clock ≤ n → (reply : group.Reply) (answer : group.Answer)
      → Makes success room c (record { name = name; left = g; reply = reply }) answer new → Behind n new
  made true true name g le reply answer is = put name g le is.1
  made true false name g le reply answer is = same is.1
  made false room name g le reply answer is = same is.1

  made_by : (given answer : group.Answer) (name : Text) (g : Group) → g.clock ≤ n → MakesBy given c name g answer new → Behind n new
  made_by (group.Replied reply) answer name g le is = made (is_success reply.code) (has_room c) name g le reply answer is
  made_by group.Closes answer name g le is = same is.1

  new_is_sound : IsSound (new_group c.salt)
  new_is_sound = every c.salt 0 (omega arith) [] (new_group c.salt) refl

  beaten : (there : Option Group) (a : Arrival) (answer : group.Answer) → a.moment ≤ n → finite.get c.groups a.heartbeat.group ≡ there → HeartbeatAt there c a answer new → Behind n new
  beaten None a answer at absent (given, left, step, makes) =
      let starts : (new_group c.salt).clock ≤ n = omega arith in
      made_by given answer a.heartbeat.group left (beat (new_group c.salt) left a given n new_is_sound step starts at) makes
  beaten (Some g) a answer at present (after, step, leaves) =
      put a.heartbeat.group after (beat g after a answer n (serving.groups a.heartbeat.group g present) step (behind a.heartbeat.group g present) at) leaves

  committed : (there : Option Group) (r : Commit) (reply : CommitReply) → finite.get c.groups r.group ≡ there → CommitAt there c r reply new → Behind n new
  committed None r reply absent is = same is.1
  committed (Some g) r reply present (after, step, leaves) =
      put r.group after (subst (λ (k : ℕ). k ≤ n) (sym (ap (λ (x : Group). x.clock) step.stores)) (behind r.group g present)) leaves

  requested : (v : RequestValue) (stamp : Stamp) (moment : ℕ) (answer : Answer) → moment ≤ n → RequestStep c v stamp moment answer new → Behind n new
  requested (heartbeat_request header v) stamp moment answer at (given, step, sends) =
      beaten (finite.get c.groups v.group_id) (arrival_of v stamp moment c.image) given at refl step
  requested (commit_request header v) stamp moment answer at (reply, step, sends) = committed (finite.get c.groups v.group_id) (commit_of v) reply refl step

  ticked_behind : (moment : ℕ) (o : Option Group) (g : Group) → moment ≤ n → ((x : Group) → o ≡ Some x → x.clock ≤ n)
      → option_map (λ (x : Group). ticked x moment) o ≡ Some g → g.clock ≤ n
  ticked_behind moment None g at before is = absurd (not_none g is)
  ticked_behind moment (Some x) g at before is =
      let same_clock : (ticked x moment).clock ≡ g.clock = ap (λ (y : Group). y.clock) (some_is (ticked x moment) g is) in
      let goes_on : (ticked x moment).clock ≡ max x.clock moment = clocks_go_on.ticks x moment in
      let first : x.clock ≤ n = before x refl in
      omega arith

  -- the moment of an event is no later
  abbrev At : Event → Type 0
  At (Frame body stamp moment) = moment ≤ n
  At (Tick moment) = moment ≤ n
  At (Image topics) = Unit {0}

  step_behind : TicksAreOfAllGroups Step → (event : Event) (answer : Answer) → At event → Step c event answer new → Behind n new
  step_behind ticks (Frame body stamp moment) answer at (inl (v, is, step)) = requested v stamp moment answer at step
  step_behind ticks (Frame body stamp moment) answer at (inr (none, closes, is)) = same is
  step_behind ticks (Tick moment) answer at step = λ name g there.
      ticked_behind moment (finite.get c.groups name) g at (behind name) (sym ((ticks c moment answer new step).each name) ∙ there)
  step_behind ticks (Image topics) answer at step = λ name g there.
      behind name g (sym (ap (λ (x : Coordinator). finite.get x.groups name) step.1) ∙ there)

-- ---- a log

later : (n m : ℕ) (c : Coordinator) → n ≤ m → Behind n c → Behind m c
later n m c le behind name g there = let at : g.clock ≤ n = behind name g there in omega arith

module _ (every : EveryGroupIsSound) (sound : StepsAreSound Step) (ticks : TicksAreOfAllGroups Step) where
  -- what an entry brings comes at the log's moment
  brought : (leadership s : ℕ) (content : ContentValue) (c d : Coordinator) (answer : Option Answer) → IsServing c → Behind s c → s ≤ moment_after s content
      → EventStep c (event_under leadership content) answer d → IsServing d × Behind (moment_after s content) d
  brought leadership s (frame f) c d None serving behind le step = absurd step
  brought leadership s (frame f) c d (Some answer) serving behind le step =
      let at : f.moment ≤ f.moment = omega arith in (
        sound c (Frame f.body (stamp_under leadership f.connection f.number) f.moment) answer d step serving,
        step_behind every f.moment c d serving (later s f.moment c le behind) ticks (Frame f.body (stamp_under leadership f.connection f.number) f.moment) answer at step,
      )
  brought leadership s (tick moment) c d None serving behind le step = absurd step
  brought leadership s (tick moment) c d (Some answer) serving behind le step =
      let at : moment ≤ moment = omega arith in (
        sound c (Tick moment) answer d step serving,
        step_behind every moment c d serving (later s moment c le behind) ticks (Tick moment) answer at step,
      )
  brought leadership s (image topics) c d None serving behind le step = absurd step
  brought leadership s (image topics) c d (Some answer) serving behind le step =
      (sound c (Image (topics_of topics)) answer d step serving, step_behind every s c d serving behind ticks (Image (topics_of topics)) answer tt step)
  brought leadership s leads c d answer serving behind le step =
      (subst IsServing (sym step.1) serving, subst (Behind s) (sym step.1) behind)

  run_behind : (s t : LogState) (log : List Logged) (fates : List Fate) → LogRun s log fates t → IsServing s.coordinator → NoClockIsAhead s → NoClockIsAhead t
  run_behind s t [] [] run serving behind = subst NoClockIsAhead (sym run) behind
  run_behind s t [] (fate ∷ fates) run serving behind = absurd run
  run_behind s t (at ∷ log) [] run serving behind = absurd run
  run_behind s t (Ok e ∷ log) (Taken answer ∷ fates) run serving behind =
      let due = IsDue-from_refusal_of s e run.1.taken in
      let kept = brought e.leadership s.moment e.content s.coordinator run.0.coordinator answer serving behind due.moment run.1.step in
      run_behind run.0 t log fates run.2 kept.0 (subst (λ (n : ℕ). Behind n run.0.coordinator) (sym run.1.moment) kept.1)
  run_behind s t (Err fault ∷ log) (Taken answer ∷ fates) run serving behind = absurd run.1
  run_behind s t (at ∷ log) (PassedOver fault ∷ fates) run serving behind =
      run_behind run.0 t log fates run.2 (subst (λ (x : LogState). IsServing x.coordinator) (sym run.1.becomes) serving)
      (subst NoClockIsAhead (sym run.1.becomes) behind)

  pub clocks_follow_the_log : ClocksFollowTheLog
  clocks_follow_the_log salt log fates s run =
      run_behind (log_opening salt) s log fates run (opening_serves salt)
      (λ name g there. absurd (not_none g (sym (finite.get-empty text_cmp name) ∙ there)))
