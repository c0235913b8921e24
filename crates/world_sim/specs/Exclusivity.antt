-- Exclusivity: whatever is lost, repeated or overtaken, no two members of a group hold one partition, and a commit is
-- taken only while what its maker held is granted to it.
use Rattle.std.specs.Prelude.{◌≡◌, ◌≢◌, ℕ, ℤ, pos, List, map, Option, Some, None, IsTrue}
use Rattle.std.specs.List.{Contains}
use Rattle.std.specs.FinMap as finite
use Rattle.kip_msgs.specs.Values.{CommitReplyValue, CommitReplyTopicValue, CommitReplyPartitionValue}
use Rattle.group_types.specs.declared.partition.Partition.{Partition}
use Rattle.group_types.specs.Text.{Text}
use Rattle.group_types.specs.Sets.{has}
use Rattle.group_types.specs.Partition.{Partitions}
use Rattle.group_types.specs.Assignors.{Subscriber}
use Rattle.group_types.specs.Owners.{IsLawful}
use Rattle.group_types.specs.Renewal.{subscriber_of}
use Rattle.group_types.specs.Group.{Group, Records}
use Rattle.member_core.specs.Settings.{Settings}
use Rattle.member_core.specs.Client.{Client}
use Rattle.world_sim.specs.World.{World, Reply, Commit, new_world, numbered, granted}
use Rattle.world_sim.specs.Acts.{Act, Bring, Outcome, IsAnswered, ActStep, Run}
use Rattle.world_sim.specs.Holding.{IsMember, IsTakeable, IsTaken}

-- ---- in a world

-- of two members of one group, none holds what the other holds
abbrev pub HoldApart : World → Type 0
HoldApart w =
    (i j : ℕ) (c d : Client) (m n : Text) (p : Partition) → IsMember w i c m → IsMember w j d n
    → c.settings.group ≡ d.settings.group → IsTrue (has c.own p) → IsTrue (has d.own p) → i ≡ j

-- a member holds only what it is granted
abbrev pub HoldGranted : World → Type 0
HoldGranted w =
    (i : ℕ) (c : Client) (m : Text) (p : Partition) → IsMember w i c m → IsTrue (has c.own p)
    → IsTrue (has (granted w.coordinator c.settings.group m) p)

-- a reply shows a member only what it is granted
abbrev pub ShowGranted : World → Type 0
ShowGranted w =
    (r : Reply) (c : Client) (m : Text) (epoch : ℕ) (shown : Partitions) (p : Partition)
    → IsTakeable w r c m epoch shown → IsTrue (has shown p) → IsTrue (has (granted w.coordinator c.settings.group m) p)

-- a commit is taken only while its `since` has all that its maker held
abbrev pub CommitHeld : World → Type 0
CommitHeld w =
    (k : Commit) (p : Partition) → Contains w.commits k → IsTaken w.coordinator k → IsTrue (has k.own p) → IsTrue (has k.since p)

-- what is in a commit's `since` is granted to its id
abbrev pub SinceGranted : World → Type 0
SinceGranted w =
    (k : Commit) (p : Partition) → Contains w.commits k → IsTrue (has k.since p)
    → IsTrue (has (granted w.coordinator k.group k.id) p)

-- ---- in an act

-- the members as an assignor sees them, by their ids
abbrev pub subscribers : Records → List Subscriber
subscribers records = map subscriber_of (finite.entries records)

-- the target gives each partition that a member subscribes exactly one owner, who subscribes it, and nothing else
abbrev pub HasLawfulTarget : Group → Type 0
HasLawfulTarget g = IsLawful g.view (subscribers g.records) g.target

abbrev pub target_epoch_of : Option Group → ℕ
target_epoch_of None = 0
target_epoch_of (Some g) = g.target_epoch

-- where a group's target is renewed, the new one is lawful for the subscriptions and the view of that moment
abbrev pub RenewsLawfully : World → World → Type 0
RenewsLawfully w new =
    (name : Text) (g : Group) → finite.get new.coordinator.groups name ≡ Some g
    → target_epoch_of (finite.get w.coordinator.groups name) ≢ g.target_epoch → HasLawfulTarget g

-- each act renews targets lawfully
abbrev pub ActsLawfully : World → Type 0
ActsLawfully w = (act : Act) (outcome : Outcome) (new : World) → ActStep w act outcome new → RenewsLawfully w new

-- a partition has the code in the reply to a commit
pub record HasCode (reply : CommitReplyValue) (code : ℤ) : Type 0 where
  pub topic : CommitReplyTopicValue
  pub is_topic : Contains reply.topics topic
  pub partition : CommitReplyPartitionValue
  pub is_partition : Contains topic.partitions partition
  pub same : partition.error_code ≡ code

-- UNKNOWN_MEMBER_ID, GROUP_ID_NOT_FOUND and STALE_MEMBER_EPOCH refuse a whole commit, and no other code does
pub record IsOfTaken (code : ℤ) : Type 0 where
  pub known : code ≢ pos 25
  pub found : code ≢ pos 69
  pub current : code ≢ pos 113

-- a commit that is brought and isn't refused as a whole has all that its maker held in its `since`
abbrev pub BringsHeld : World → Type 0
BringsHeld w =
    (number : ℕ) (k : Commit) (reply : CommitReplyValue) (new : World) (code : ℤ) (p : Partition)
    → numbered w.commits number ≡ Some k → ActStep w (Bring number) (IsAnswered reply) new
    → HasCode reply code → IsOfTaken code → IsTrue (has k.own p) → IsTrue (has k.since p)

-- ---- all of it

pub record IsExclusive (w : World) : Type 0 where
  pub apart : HoldApart w
  pub granted : HoldGranted w
  pub shown : ShowGranted w
  pub commits : CommitHeld w
  pub since : SinceGranted w
  pub brought : BringsHeld w
  pub lawful : ActsLawfully w

-- so it is in a world, and in every world to which acts lead from it
abbrev pub HoldsOn : (World → Type 0) → World → Type 0
HoldsOn Holds w = (acts : List Act) (outcomes : List Outcome) (new : World) → Run w acts outcomes new → Holds new

-- ---- after every list of acts, from clients that haven't asked for anything

abbrev pub Always : (World → Type 0) → Type 0
Always Holds =
    (salt : ℕ) (clients : List Settings) (acts : List Act) (outcomes : List Outcome) (w : World)
    → Run (new_world salt clients) acts outcomes w → Holds w
