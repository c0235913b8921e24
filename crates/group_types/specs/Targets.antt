-- KIP-848, "Target Assignment": the target follows the members, what they subscribe, and the topics.
use Rattle.std.specs.Prelude.{◌≡◌, ℕ, ◌<◌, ◌≤◌, pos, List, Some, MatchOption}
use Rattle.std.specs.FinMap as finite
use Rattle.group_types.specs.declared.assignor_name.AssignorName.{AssignorName}
use Rattle.group_types.specs.declared.partition.Partition.{Partition}
use Rattle.group_types.specs.Limits.{GREATEST_EPOCH}
use Rattle.group_types.specs.Text.{Text}
use Rattle.group_types.specs.Topics.{Topics}
use Rattle.group_types.specs.Images.{AreImageTopics}
use Rattle.group_types.specs.Assignors.{Subscriber}
use Rattle.group_types.specs.Owners.{Spread, IsLawful, IsSubscribed}
use Rattle.group_types.specs.Group.{Record, Records, Target, Group, starting_group}
use Rattle.group_types.specs.Renewal.{AreOwners, view_for}
use Rattle.group_types.specs.HeartbeatStep.{Answer, Arrival, HeartbeatStep}
use Rattle.group_types.specs.Laws.{GroupEvent, IsGroupRun}
use Rattle.group_types.specs.Fencing.{IsAcceptedAs}

-- the member with this id subscribes the partition
abbrev pub Subscribes : Records → Topics → Partition → Text → Type 0
Subscribes records view p id = (r : Record) × (finite.get records id ≡ Some r) × IsSubscribed view r.names p

-- each partition that some member subscribes has one owner, who subscribes it; nothing else is owned
abbrev pub IsLawfulFor : Records → Topics → Target → Type 0
IsLawfulFor records view target =
    (p : Partition) → MatchOption (finite.get target p) ((id : Text) → ¬ Subscribes records view p id) (Subscribes records view p)

-- the view is that of the node's image for the present members, and the target is lawful for both
pub record FollowsMembers (image : Topics) (g : Group) : Type 0 where
  pub view : g.view ≡ view_for image g.records
  pub lawful : IsLawfulFor g.records g.view g.target

-- the owners under each assignor are lawful
abbrev pub AssignorsAreLawful : Type 0
AssignorsAreLawful =
    (name : AssignorName) (view : Topics) (subs : List Subscriber) (former target : Spread)
    → AreOwners name view subs former target → IsLawful view subs target

-- Whatever came to a group since it was new: once a join or a beat was accepted, the target follows the members of that
-- moment. At the greatest group epoch nothing is renewed any more.
abbrev pub TargetsFollowMembers : Type 0
TargetsFollowMembers =
    (salt epoch : ℕ) (events : List GroupEvent) (g : Group) (a : Arrival) (m : Text) (answer : Answer) (new : Group) (n : ℕ)
    → epoch ≤ GREATEST_EPOCH → IsGroupRun (starting_group salt epoch) events g
    → AreImageTopics a.image → HeartbeatStep g a answer new → a.heartbeat.epoch ≡ pos n → IsAcceptedAs m answer
    → new.epoch < GREATEST_EPOCH → FollowsMembers a.image new

-- as far as the group goes: that the assignors are lawful is proved of each of them
abbrev pub TargetsFollowByLawfulAssignors : Type 0
TargetsFollowByLawfulAssignors = AssignorsAreLawful → TargetsFollowMembers
