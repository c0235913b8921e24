-- What a frame does to a coordinator: nothing, or one step of one group.
use Rattle.std.proofs.Common.{◌≡◌, ◌≢◌, ℕ, ℤ, Bool, true, false, List, [], ◌∷◌, Option, Some, None, refl, sym, ap, subst, ◌∙◌}
use Rattle.std.specs.Option.{option_or, unwrap_or}
use Rattle.std.specs.FinMap as finite
use Rattle.group_types.specs.Text.{Text}
use Rattle.group_types.specs.Images.{AreImageTopics}
use Rattle.group_types.specs.Group.{Group, new_group, place_cmp}
use Rattle.group_types.specs.Topics.{Topics}
use Rattle.group_types.specs.Tick.{ticked}
use Rattle.group_types.specs.Commit.{Commit, CommitReply, CommitStep}
use Rattle.group_types.specs.HeartbeatStep.{Arrival}
use Rattle.group_types.specs.HeartbeatStep as group
use Rattle.group_types.specs.Laws.{GroupEvent, OfHeartbeat, OfTick, OfCommit, IsGroupStep}
use Rattle.group_types.specs.StoredOffsets.{OffsetsAreTheLast, last_committed}
use Rattle.group_types.proofs.Lookups.{Tie, ties, differs, tie, no_tie, get-inserted, get-insert_other}
use Rattle.coord_node.specs.Coordinator.{Coordinator, committed_at}
use Rattle.coord_node.specs.Steps.{CommitAt, HeartbeatAt, Makes, MakesBy, has_room, is_success, with_group}

-- the group under a name: a new one where there is none
abbrev pub group_at : Coordinator → Text → Group
group_at c name = unwrap_or (finite.get c.groups name) (new_group c.salt)

-- a group's step, over whatever topics
abbrev pub IsStep : Group → GroupEvent → Group → Type 0
IsStep g (OfHeartbeat a answer) new = group.HeartbeatStep g a answer new
IsStep g (OfTick moment) new = new ≡ ticked g moment
IsStep g (OfCommit r image reply) new = CommitStep g r image reply new

-- a coordinator after nothing, or after one step of the group under a name, by an event of a kind
pub data Did (c new : Coordinator) (name : Text) (IsOne : GroupEvent → Type 0) : Type 0 where
  stays : new ≡ c → Did c new name IsOne
  steps : (e : GroupEvent) (g : Group) → IsOne e → IsStep (group_at c name) e g → new ≡ with_group c name g → Did c new name IsOne

-- a heartbeat that comes with these topics
abbrev pub IsHeartbeat : Topics → GroupEvent → Type 0
IsHeartbeat topics (OfHeartbeat a answer) = a.image ≡ topics
IsHeartbeat topics (OfTick moment) = ⊥
IsHeartbeat topics (OfCommit r image reply) = ⊥

pub group_step : (topics : Topics) → AreImageTopics topics → (g : Group) (e : GroupEvent) (new : Group) → IsHeartbeat topics e → IsStep g e new → IsGroupStep g e new
group_step topics image g (OfHeartbeat a answer) new is step = (subst AreImageTopics (sym is) image, step)
group_step topics image g (OfTick moment) new is step = absurd is
group_step topics image g (OfCommit r topics' reply) new is step = absurd is

-- ---- heartbeats and commits

module _ (c new : Coordinator) (a : Arrival) (given : group.Answer) (g : Group) (step : group.HeartbeatStep (group_at c a.heartbeat.group) a given g) where
  made : (success room : Bool) (reply : group.Reply) (answer : group.Answer)
      → Makes success room c (record { name = a.heartbeat.group; left = g; reply = reply }) answer new → Did c new a.heartbeat.group (IsHeartbeat a.image)
  made true true reply answer is = steps (OfHeartbeat a given) g refl step is.1
  made true false reply answer is = stays is.1
  made false room reply answer is = stays is.1

  made_by : (of : group.Answer) (answer : group.Answer) → MakesBy of c a.heartbeat.group g answer new → Did c new a.heartbeat.group (IsHeartbeat a.image)
  made_by (group.Replied reply) answer is = made (is_success reply.code) (has_room c) reply answer is
  made_by group.Closes answer is = stays is.1

pub at_absent : (c : Coordinator) (name : Text) → finite.get c.groups name ≡ None → group_at c name ≡ new_group c.salt
at_absent c name absent = ap (λ (o : Option Group). unwrap_or o (new_group c.salt)) absent

pub at_present : (c : Coordinator) (name : Text) (g : Group) → finite.get c.groups name ≡ Some g → group_at c name ≡ g
at_present c name g present = ap (λ (o : Option Group). unwrap_or o (new_group c.salt)) present

pub did_heartbeat : (c : Coordinator) (a : Arrival) (there : Option Group) → finite.get c.groups a.heartbeat.group ≡ there
    → (answer : group.Answer) (new : Coordinator) → HeartbeatAt there c a answer new → Did c new a.heartbeat.group (IsHeartbeat a.image)
did_heartbeat c a None absent answer new (given, g, step, makes) =
    made_by c new a given g (subst (λ (x : Group). group.HeartbeatStep x a given g) (sym (at_absent c a.heartbeat.group absent)) step) given answer makes
did_heartbeat c a (Some g) present answer new (after, step, leaves) =
    steps (OfHeartbeat a answer) after refl
    (subst (λ (x : Group). group.HeartbeatStep x a answer after) (sym (at_present c a.heartbeat.group g present)) step) leaves

pub did_commit : (c : Coordinator) (r : Commit) (there : Option Group) → finite.get c.groups r.group ≡ there
    → (reply : CommitReply) (new : Coordinator) → CommitAt there c r reply new → Did c new r.group (λ e. e ≡ OfCommit r c.image reply)
did_commit c r None absent reply new is = stays is.1
did_commit c r (Some g) present reply new (after, step, leaves) =
    steps (OfCommit r c.image reply) after refl
    (subst (λ (x : Group). CommitStep x r c.image reply after) (sym (at_present c r.group g present)) step) leaves

-- ---- what they leave

pub did_leave : (c new : Coordinator) (name : Text) (IsOne : GroupEvent → Type 0) (other : Text) → Did c new name IsOne → other ≢ name
    → finite.get new.groups other ≡ finite.get c.groups other
did_leave c new name IsOne other (stays is) apart = ap (λ (x : Coordinator). finite.get x.groups other) is
did_leave c new name IsOne other (steps e g one step is) apart =
    ap (λ (x : Coordinator). finite.get x.groups other) is ∙ get-insert_other c.groups name g other (no_tie other name apart)

pub did_keep_salt : (c new : Coordinator) (name : Text) (IsOne : GroupEvent → Type 0) → Did c new name IsOne → new.salt ≡ c.salt
did_keep_salt c new name IsOne (stays is) = ap (λ (x : Coordinator). x.salt) is
did_keep_salt c new name IsOne (steps e g one step is) = ap (λ (x : Coordinator). x.salt) is

-- the offsets of the group under a name
offsets_at : (o : Option Group) (salt : ℕ) (place : Text × ℤ) → finite.get (unwrap_or o (new_group salt)).offsets place ≡ committed_at o place
offsets_at None salt place = finite.get-empty place_cmp place
offsets_at (Some g) salt place = refl

pub did_commits : OffsetsAreTheLast → (c new : Coordinator) (name : Text) (e : GroupEvent) (g : Group) → IsGroupStep (group_at c name) e g → new ≡ with_group c name g
    → (topic : Text) (index : ℤ)
    → committed_at (finite.get new.groups name) (topic, index) ≡ option_or (last_committed topic index (e ∷ [])) (committed_at (finite.get c.groups name) (topic, index))
did_commits last c new name e g step is topic index =
    ap (λ (x : Coordinator). committed_at (finite.get x.groups name) (topic, index)) is
    ∙ (ap (λ (o : Option Group). committed_at o (topic, index)) (get-inserted c.groups name g)
    ∙ (last (e ∷ []) (group_at c name) g topic index (g, step, refl)
    ∙ ap (option_or (last_committed topic index (e ∷ []))) (offsets_at (finite.get c.groups name) c.salt (topic, index))))

commits_nothing : (topics : Topics) (e : GroupEvent) → IsHeartbeat topics e → (topic : Text) (index : ℤ) → last_committed topic index (e ∷ []) ≡ None
commits_nothing topics (OfHeartbeat a answer) is topic index = refl
commits_nothing topics (OfTick moment) is topic index = absurd is
commits_nothing topics (OfCommit r image reply) is topic index = absurd is

-- a heartbeat commits nothing, in any group
pub heartbeat_commits : OffsetsAreTheLast → (c new : Coordinator) (name other : Text) (topics : Topics) → AreImageTopics topics → Did c new name (IsHeartbeat topics)
    → (topic : Text) (index : ℤ) → committed_at (finite.get new.groups other) (topic, index) ≡ committed_at (finite.get c.groups other) (topic, index)
heartbeat_commits last c new name other topics image (stays is) topic index = ap (λ (x : Coordinator). committed_at (finite.get x.groups other) (topic, index)) is
heartbeat_commits last c new name other topics image (steps e g one step is) topic index = by (tie other name)
  where
    by : Tie other name → committed_at (finite.get new.groups other) (topic, index) ≡ committed_at (finite.get c.groups other) (topic, index)
    by (ties same) =
        subst (λ (q : Text). committed_at (finite.get new.groups q) (topic, index) ≡ committed_at (finite.get c.groups q) (topic, index)) (sym same)
        (did_commits last c new name e g (group_step topics image (group_at c name) e g one step) is topic index
        ∙ ap (λ o. option_or o (committed_at (finite.get c.groups name) (topic, index))) (commits_nothing topics e one topic index))
    by (differs apart _) =
        ap (λ (o : Option Group). committed_at o (topic, index)) (did_leave c new name (IsHeartbeat topics) other (steps e g one step is) apart)
