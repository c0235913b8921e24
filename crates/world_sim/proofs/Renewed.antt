-- Each act renews targets lawfully: only a heartbeat renews one.
use Rattle.std.proofs.Common.{◌≡◌, ◌≢◌, ℕ, Bool, true, false, List, [], ◌∷◌, Option, Some, None, inl, inr, refl, sym, ap, subst, ◌∙◌, arith}
use Rattle.std.specs.Option.{option_map}
use Rattle.std.specs.FinMap as finite
use Rattle.kip_msgs.specs.Values.{CommitRequestTopicValue, RequestValue, heartbeat_request, commit_request}
use Rattle.group_types.specs.declared.partition.Partition.{Partition}
use Rattle.group_types.specs.declared.stamp.Stamp.{Stamp}
use Rattle.group_types.specs.Text.{Text}
use Rattle.group_types.specs.Group.{Group, Record, new_group}
use Rattle.group_types.specs.Leave.{risen, without_member}
use Rattle.group_types.specs.Tick.{at_moment, due, expired, ticked, without_members}
use Rattle.group_types.specs.Commit.{Commit, CommitReply}
use Rattle.group_types.specs.HeartbeatStep.{Arrival}
use Rattle.group_types.specs.HeartbeatStep as group
use Rattle.group_types.specs.Laws.{EveryGroupIsSound}
use Rattle.group_types.proofs.Lookups.{Found, this, another, found, not_none, some_is}
use Rattle.group_epochs.specs.Request.{arrival_of, commit_of}
use Rattle.coord_node.specs.Coordinator.{Coordinator, Event, Frame, Tick, Image, Answer, Replied, Closes, Done}
use Rattle.coord_node.specs.Steps.{is_success, has_room, all_ticked, Makes, MakesBy, HeartbeatAt, CommitAt, with_group, RequestStep, FrameStepBy, Step}
use Rattle.coord_node.specs.Laws.{HasSoundGroups}
use Rattle.group_types.specs.Targets.{AssignorsAreLawful}
use Rattle.member_core.specs.Asking.{Ask, request_for}
use Rattle.member_core.specs.Client.{Client}
use Rattle.member_core.specs.Refusing.{is_too_large}
use Rattle.world_sim.specs.World as world
use Rattle.world_sim.specs.World.{World, Request, Reply, numbered, with_coordinator}
use Rattle.world_sim.specs.Acts.{Asks, GivesUp, Deliver, Take, Release, Commits, Bring, Clock, Passes, Sees, Outcome, Answers, AsksIf, AsksStep, BringStep, ChangesIf, CommitsBy, CommitsIf, CommitsStep, DeliversIf, DeliverStep, GivesUpStep, Pools, ReleaseStep, SendsIf, TakeBy, TakenAs, TakeStep, commit_by, fits_frame, no_stamp}
use Rattle.world_sim.specs.Exclusivity.{ActsLawfully, HasLawfulTarget, RenewsLawfully, target_epoch_of}
use Rattle.world_sim.specs.Invariant.{Keeps}
use Rattle.world_sim.proofs.Groups.{sound_groups, get_ticked}
use Rattle.world_sim.proofs.Lawful.{RenewedLawfully, heartbeat_renews}

-- of two coordinators
abbrev Renews : Coordinator → Coordinator → Type 0
Renews c new =
    (name : Text) (g : Group) → finite.get new.groups name ≡ Some g → target_epoch_of (finite.get c.groups name) ≢ g.target_epoch → HasLawfulTarget g

unchanged : (c new : Coordinator) → new ≡ c → Renews c new
unchanged c new same name g there other =
    absurd (other (ap target_epoch_of (ap (λ (x : Coordinator). finite.get x.groups name) (sym same) ∙ there)))

-- one group is put
put : (c : Coordinator) (name : Text) (g : Group) → (target_epoch_of (finite.get c.groups name) ≢ g.target_epoch → HasLawfulTarget g) → Renews c (with_group c name g)
put c name g lawful q x there other = by (found c.groups name g q x there)
  where
    by : Found c.groups name g q x → HasLawfulTarget x
    by (this same is) =
        subst HasLawfulTarget (sym is) (lawful (λ equal. other (ap (λ (k : Text). target_epoch_of (finite.get c.groups k)) same ∙ equal ∙ ap (λ (y : Group). y.target_epoch) (sym is))))
    by (another _ _ before) = absurd (other (ap target_epoch_of before))

-- ---- ticks

leaving_epoch : (ms : List (Text × Record)) (g : Group) → (without_members g ms).target_epoch ≡ g.target_epoch
leaving_epoch [] g = refl
leaving_epoch (m ∷ ms) g = leaving_epoch ms (without_member g m.0 m.1.stamp)

expired_epoch : (ms : List (Text × Record)) (g : Group) → (expired g ms).target_epoch ≡ g.target_epoch
expired_epoch [] g = refl
expired_epoch (m ∷ ms) g = leaving_epoch (m ∷ ms) (record g { epoch = risen g.epoch })

ticked_renews : (c : Coordinator) (moment : ℕ) → Renews c (record c { groups = all_ticked c.groups moment })
ticked_renews c moment name g there other = by (finite.get c.groups name) refl (sym (get_ticked c.groups moment name) ∙ there)
  where
    by : (o : Option Group) → finite.get c.groups name ≡ o → option_map (λ x. ticked x moment) o ≡ Some g → HasLawfulTarget g
    by None none is = absurd (not_none g is)
    by (Some x) before is =
        absurd (other (ap target_epoch_of before ∙ sym (expired_epoch (due (at_moment x moment)) (at_moment x moment)) ∙ ap (λ (y : Group). y.target_epoch) (some_is (ticked x moment) g is)))

-- ---- commits

committed_renews : (there : Option Group) (c : Coordinator) (r : Commit) → finite.get c.groups r.group ≡ there → (reply : CommitReply) (new : Coordinator) → CommitAt there c r reply new → Renews c new
committed_renews None c r none reply new is = unchanged c new is.1
committed_renews (Some g) c r there reply new is =
    subst (λ (x : Coordinator). Renews c x) (sym is.2)
    (put c r.group is.0 (λ other. absurd (other (ap target_epoch_of there ∙ ap (λ (x : Group). x.target_epoch) (sym is.1.stores)))))

-- ---- heartbeats

makes_lawfully : (success room : Bool) (c : Coordinator) (name : Text) (g : Group) → finite.get c.groups name ≡ None → RenewedLawfully (new_group c.salt) g
    → (reply : group.Reply) (answer : group.Answer) (new : Coordinator) → Makes success room c (record { name = name; left = g; reply = reply }) answer new → Renews c new
makes_lawfully true true c name g none lawful reply answer new is =
    subst (λ (x : Coordinator). Renews c x) (sym is.1) (put c name g (λ other. lawful (λ same. other (ap target_epoch_of none ∙ same))))
makes_lawfully true false c name g none lawful reply answer new is = unchanged c new is.1
makes_lawfully false room c name g none lawful reply answer new is = unchanged c new is.1

made_lawfully : (given : group.Answer) (c : Coordinator) (name : Text) (g : Group) → finite.get c.groups name ≡ None → RenewedLawfully (new_group c.salt) g
    → (answer : group.Answer) (new : Coordinator) → MakesBy given c name g answer new → Renews c new
made_lawfully (group.Replied reply) c name g none lawful answer new is = makes_lawfully (is_success reply.code) (has_room c) c name g none lawful reply answer new is
made_lawfully group.Closes c name g none lawful answer new is = unchanged c new is.1

module _ (assignors : AssignorsAreLawful) (every : EveryGroupIsSound) where
  beaten_renews : (c : Coordinator) → HasSoundGroups c → (a : Arrival) (there : Option Group) → finite.get c.groups a.heartbeat.group ≡ there
      → (answer : group.Answer) (new : Coordinator) → HeartbeatAt there c a answer new → Renews c new
  beaten_renews c sound a None none answer new is =
      made_lawfully is.0 c a.heartbeat.group is.1 none (heartbeat_renews assignors (new_group c.salt) (every c.salt 0 (omega arith) [] (new_group c.salt) refl) a is.0 is.1 is.2) answer new is.3
  beaten_renews c sound a (Some g) there answer new is =
      subst (λ (x : Coordinator). Renews c x) (sym is.2)
      (put c a.heartbeat.group is.0 (λ other. heartbeat_renews assignors g (sound a.heartbeat.group g there) a answer is.0 is.1 (λ same. other (ap target_epoch_of there ∙ same))))

  requested_renews : (c : Coordinator) → HasSoundGroups c → (v : RequestValue) (stamp : Stamp) (moment : ℕ) (answer : Answer) (new : Coordinator) → RequestStep c v stamp moment answer new → Renews c new
  requested_renews c sound (heartbeat_request header v) stamp moment answer new is =
      beaten_renews c sound (arrival_of v stamp moment c.image) (finite.get c.groups v.group_id) refl is.0 new is.1
  requested_renews c sound (commit_request header v) stamp moment answer new is =
      committed_renews (finite.get c.groups v.group_id) c (commit_of v) refl is.0 new is.1

  framed_renews : (c : Coordinator) → HasSoundGroups c → (body : List ℕ) (stamp : Stamp) (moment : ℕ) (answer : Answer) (new : Coordinator) → FrameStepBy RequestStep c body stamp moment answer new → Renews c new
  framed_renews c sound body stamp moment answer new (inl (v, is, step)) = requested_renews c sound v stamp moment answer new step
  framed_renews c sound body stamp moment answer new (inr is) = unchanged c new is.2

  step_renews : (c : Coordinator) → HasSoundGroups c → (event : Event) (answer : Answer) (new : Coordinator) → Step c event answer new → Renews c new
  step_renews c sound (Frame body stamp moment) answer new step = framed_renews c sound body stamp moment answer new step
  step_renews c sound (Tick moment) answer new step = subst (λ (x : Coordinator). Renews c x) (sym step.1) (ticked_renews c moment)
  step_renews c sound (Image topics) answer new step = λ name g there other. absurd (other (ap target_epoch_of (ap (λ (x : Coordinator). finite.get x.groups name) (sym step.1) ∙ there)))

  -- ---- acts

  module _ (w : World) (keeps : Keeps w) (outcome : Outcome) (new : World) where
    abbrev c : Coordinator
    c = w.coordinator

    sound : HasSoundGroups c
    sound = sound_groups c (λ name. (keeps.groups name).sound)

    -- the coordinator stays
    same : new.coordinator ≡ c → RenewsLawfully w new
    same is = unchanged c new.coordinator is

    same_world : new ≡ w → RenewsLawfully w new
    same_world is = same (ap (λ (x : World). x.coordinator) is)

    goes_on : (after : Coordinator) → new.coordinator ≡ after → Renews c after → RenewsLawfully w new
    goes_on after is renews = subst (λ (x : Coordinator). Renews c x) (sym is) renews

    asks_if : (b : Bool) (x : Client) (n : ℕ) (ask : Ask) → AsksIf b x w n ask outcome new → RenewsLawfully w new
    asks_if false x n ask is = same_world is.1
    asks_if true x n ask is = by (is_too_large (request_for x ask)) is
      where
        by : (large : Bool) → SendsIf large x w n ask outcome new → RenewsLawfully w new
        by true is = same_world is.1
        by false (body, after, asks, is) = same (ap (λ (y : World). y.coordinator) is.1)

    asks_step : (o : Option Client) (n : ℕ) (ask : Ask) → AsksStep o w n ask outcome new → RenewsLawfully w new
    asks_step None n ask is = same_world is.1
    asks_step (Some x) n ask is = asks_if _ x n ask is

    changes_if : (b : Bool) (x : Client) (n : ℕ) → ChangesIf b x w n outcome new → RenewsLawfully w new
    changes_if true x n is = same (ap (λ (y : World). y.coordinator) is.1)
    changes_if false x n is = same_world is.1

    gives_up_step : (o : Option Client) (n : ℕ) → GivesUpStep o w n outcome new → RenewsLawfully w new
    gives_up_step None n is = same_world is.1
    gives_up_step (Some x) n is = changes_if _ _ n is

    release_step : (o : Option Client) (n : ℕ) (p : Partition) → ReleaseStep o w n p outcome new → RenewsLawfully w new
    release_step None n p is = same_world is.1
    release_step (Some x) n p is = changes_if _ _ n is

    pools : (q : Request) (after : Coordinator) (answer : Answer) → Pools (with_coordinator w after) q answer outcome new → new.coordinator ≡ after
    pools q after (Replied frame) is = ap (λ (y : World). y.coordinator) is.5.1
    pools q after Closes is = ap (λ (y : World). y.coordinator) is.1
    pools q after (Done removed) is = absurd is

    delivers_if : (b : Bool) (q : Request) → DeliversIf b w q outcome new → RenewsLawfully w new
    delivers_if true q is = same_world is.1
    delivers_if false q (answer, after, step, is) = goes_on after (pools q after answer is) (step_renews c sound (Frame q.body q.stamp w.clock) answer after step)

    deliver_step : (o : Option Request) → DeliverStep o w outcome new → RenewsLawfully w new
    deliver_step None is = same_world is.1
    deliver_step (Some q) is = delivers_if _ q is.3

    taken_as : (taken : Bool) (n : ℕ) (x : Client) → TakenAs taken w n x outcome new → RenewsLawfully w new
    taken_as true n x is = same (ap (λ (y : World). y.coordinator) is.1)
    taken_as false n x is = same_world is.1

    take_by : (o : Option Client) (r : Reply) → TakeBy o r w outcome new → RenewsLawfully w new
    take_by None r is = absurd is
    take_by (Some x) r (taken, after, takes, is) = taken_as taken r.request.sender after is

    take_step : (o : Option Reply) → TakeStep o w outcome new → RenewsLawfully w new
    take_step None is = same_world is.1
    take_step (Some r) is = take_by (numbered w.clients r.request.sender) r is

    commits_by : (b : Bool) (k : world.Commit) → CommitsBy b w k outcome new → RenewsLawfully w new
    commits_by true k is = same (ap (λ (y : World). y.coordinator) is.1)
    commits_by false k is = same_world is.1

    commits_if : (b : Bool) (x : Client) (topics : List CommitRequestTopicValue) → CommitsIf b x w topics outcome new → RenewsLawfully w new
    commits_if false x topics is = same_world is.1
    commits_if true x topics (body, spells, is) = commits_by (fits_frame body) (commit_by x body) is

    commits_step : (o : Option Client) (topics : List CommitRequestTopicValue) → CommitsStep o w topics outcome new → RenewsLawfully w new
    commits_step None topics is = same_world is.1
    commits_step (Some x) topics is = commits_if _ x topics is

    answers : (after : Coordinator) (answer : Answer) → Answers (with_coordinator w after) answer outcome new → new.coordinator ≡ after
    answers after (Replied frame) is = ap (λ (y : World). y.coordinator) is.5.1
    answers after Closes is = absurd is
    answers after (Done removed) is = absurd is

    bring_step : (o : Option world.Commit) → BringStep o w outcome new → RenewsLawfully w new
    bring_step None is = same_world is.1
    bring_step (Some k) (answer, after, step, is) = goes_on after (answers after answer is) (step_renews c sound (Frame k.body no_stamp w.clock) answer after step)

  pub acts_lawfully : (w : World) → Keeps w → ActsLawfully w
  acts_lawfully w keeps (Asks n ask) outcome new is = asks_step w keeps outcome new (numbered w.clients n) n ask is
  acts_lawfully w keeps (GivesUp n) outcome new is = gives_up_step w keeps outcome new (numbered w.clients n) n is
  acts_lawfully w keeps (Deliver k) outcome new is = deliver_step w keeps outcome new (numbered w.requests k) is
  acts_lawfully w keeps (Take j) outcome new is = take_step w keeps outcome new (numbered w.replies j) is
  acts_lawfully w keeps (Release n p) outcome new is = release_step w keeps outcome new (numbered w.clients n) n p is
  acts_lawfully w keeps (Commits n topics) outcome new is = commits_step w keeps outcome new (numbered w.clients n) topics is
  acts_lawfully w keeps (Bring k) outcome new is = bring_step w keeps outcome new (numbered w.commits k) is
  acts_lawfully w keeps (Clock moment) outcome new is = same w keeps outcome new (ap (λ (y : World). y.coordinator) is.1)
  acts_lawfully w keeps (Passes moment) outcome new (removed, after, step, is) =
      goes_on w keeps outcome new after (ap (λ (y : World). y.coordinator) is.1) (step_renews w.coordinator (sound_groups w.coordinator (λ name. (keeps.groups name).sound)) (Tick moment) (Done removed) after step)
  acts_lawfully w keeps (Sees image) outcome new (after, step, is) =
      goes_on w keeps outcome new after (ap (λ (y : World). y.coordinator) is.1) (step_renews w.coordinator (sound_groups w.coordinator (λ name. (keeps.groups name).sound)) (Image image) (Done 0) after step)
