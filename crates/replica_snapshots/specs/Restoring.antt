-- Groups that are read into a node, one behind the other.
use Rattle.std.specs.Prelude.{◌≡◌, ◌≤◌, ℕ, List, ◌++◌, length, Some, All}
use Rattle.std.specs.FinMap as finite
use Rattle.std.specs.List.{flat_map}
use Rattle.group_types.specs.Group.{Group}
use Rattle.group_types.specs.Images.{AreImageTopics}
use Rattle.group_types.specs.Limits.{MOST_GROUPS}
use Rattle.group_types.specs.Text.{Text}
use Rattle.coord_node.specs.Coordinator.{Coordinator}
use Rattle.coord_node.specs.Restored.{CanBeKept, IsGroupId}
use Rattle.coord_node.specs.Nodes.{HasEachOnce, Named, NodeValue, coordinator_of, with_named}
use Rattle.replica_snapshots.specs.Groups.{named_fields, FitsNamed}
use Rattle.replica_snapshots.specs.Nodes.{FitsNode}

-- One group is read from the front of bytes, and added to a node.
pub record ReadsGroup (bytes rest : List ℕ) (old new : NodeValue) : Type 0 where
  pub group : Named
  pub fits : FitsNamed group
  pub spelled : bytes ≡ named_fields group ++ rest
  pub added : new ≡ with_named old group

-- So many groups are read from the front of bytes, and added to a node.
pub record ReadsGroups (count : ℕ) (bytes rest : List ℕ) (old new : NodeValue) : Type 0 where
  pub read : List Named
  pub all : length read ≡ count
  pub fits : All FitsNamed read
  pub spelled : bytes ≡ flat_map named_fields read ++ rest
  pub added : new ≡ record old { groups = old.groups ++ read }

-- ---- what can be restored

-- What a node can be: its topics are an image's, its groups have names that a join may have, and it has no more than it may have.
pub record CanBeNode (c : Coordinator) : Type 0 where
  pub image : AreImageTopics c.image
  pub ids : (name : Text) (g : Group) → finite.get c.groups name ≡ Some g → IsGroupId name
  pub few : finite.len c.groups ≤ MOST_GROUPS

-- one group more can be kept
abbrev pub CanKeep : NodeValue → Named → Type 0
CanKeep n g = CanBeKept (coordinator_of n).groups g.0

-- What can be restored: a node that has a spelling, no two of whose groups have one name, and whose coordinator a node can be.
pub record CanBeRestored (n : NodeValue) : Type 0 where
  pub fits : FitsNode n
  pub once : HasEachOnce n
  pub can : CanBeNode (coordinator_of n)
