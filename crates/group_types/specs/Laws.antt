-- What the definitions of the machine come to, whatever the group and the heartbeat.
use Rattle.std.specs.Prelude.{◌≡◌, ◌≢◌, ℕ, ◌≤◌, pos, List, [], ◌∷◌, Some, None}
use Rattle.std.specs.FinMap as finite
use Rattle.group_types.specs.declared.code.Code.TheVariants.{NoError}
use Rattle.group_types.specs.declared.epoch.Epoch.TheVariants.{At}
use Rattle.group_types.specs.declared.stamp.Stamp.{Stamp}
use Rattle.group_types.specs.Limits.{GREATEST_EPOCH}
use Rattle.group_types.specs.Text.{Text}
use Rattle.group_types.specs.Topics.{Topics}
use Rattle.group_types.specs.Images.{AreImageTopics}
use Rattle.group_types.specs.Group.{Record, Group, starting_group}
use Rattle.group_types.specs.Leave.{left, gone_away}
use Rattle.group_types.specs.Tick.{ticked}
use Rattle.group_types.specs.Commit.{Commit, CommitReply, CommitStep, refusal_of_commit}
use Rattle.group_types.specs.Sound.{IsSound}
use Rattle.group_types.specs.HeartbeatStep.{Answer, Replied, Reply, Arrival, HeartbeatStep}

-- a heartbeat that is answered with an error has changed nothing
abbrev pub RefusalsChangeNothing : Type 0
RefusalsChangeNothing =
    (g : Group) (a : Arrival) (reply : Reply) (new : Group)
    → HeartbeatStep g a (Replied reply) new → reply.code ≢ NoError → new ≡ g

-- whose record a leave or a going away is, and that it is there
abbrev pub IsMember : Group → Text → Record → Type 0
IsMember g m r = finite.get g.records m ≡ Some r

-- whoever leaves, for good or for a while, leaves a sound group
abbrev pub LeavesAreSound : Type 0
LeavesAreSound =
    (g : Group) (m : Text) (r : Record) (stamp : Stamp) (moment : ℕ)
    → IsSound g → IsMember g m r → IsSound (left g m stamp moment) × IsSound (gone_away g m r stamp moment)

-- a tick leaves a sound group, whoever it removes
abbrev pub TicksAreSound : Type 0
TicksAreSound = (g : Group) (moment : ℕ) → IsSound g → IsSound (ticked g moment)

-- a commit leaves a sound group, and nothing but the offsets changes
abbrev pub CommitsAreSound : Type 0
CommitsAreSound =
    (g : Group) (c : Commit) (image : Topics) (reply : CommitReply) (new : Group)
    → CommitStep g c image reply new → IsSound g → IsSound new × (record new { offsets = g.offsets } ≡ g)

-- a commit that is taken at an epoch of 0 or more has its member's epoch
abbrev pub CommitsAreAtEpoch : Type 0
CommitsAreAtEpoch =
    (g : Group) (c : Commit) (epoch : ℕ)
    → c.epoch ≡ pos epoch → refusal_of_commit g.records c.member c.epoch ≡ None
    → (r : Record) × IsMember g c.member r × (r.epoch ≡ At epoch)

-- a heartbeat leaves a sound group, whatever it is and whatever is answered, where the node's topics are an image's
abbrev pub HeartbeatsAreSound : Type 0
HeartbeatsAreSound =
    (g : Group) (a : Arrival) (answer : Answer) (new : Group)
    → AreImageTopics a.image → HeartbeatStep g a answer new → IsSound g → IsSound new

-- ---- all that comes to a group

-- one heartbeat, tick or commit, with its answer where it has one
pub data GroupEvent : Type 0 where
  OfHeartbeat : Arrival → Answer → GroupEvent
  OfTick : ℕ → GroupEvent
  OfCommit : Commit → Topics → CommitReply → GroupEvent

-- the topics that a heartbeat comes with are an image's
abbrev pub IsGroupStep : Group → GroupEvent → Group → Type 0
IsGroupStep g (OfHeartbeat a answer) new = AreImageTopics a.image × HeartbeatStep g a answer new
IsGroupStep g (OfTick moment) new = new ≡ ticked g moment
IsGroupStep g (OfCommit c image reply) new = CommitStep g c image reply new

-- one event after the other
abbrev pub IsGroupRun : Group → List GroupEvent → Group → Type 0
IsGroupRun g [] new = new ≡ g
IsGroupRun g (event ∷ events) new = (next : Group) × IsGroupStep g event next × IsGroupRun next events new

-- whatever came to a group since it was new, it is sound
abbrev pub EveryGroupIsSound : Type 0
EveryGroupIsSound =
    (salt epoch : ℕ) → epoch ≤ GREATEST_EPOCH
    → (events : List GroupEvent) (g : Group) → IsGroupRun (starting_group salt epoch) events g → IsSound g
