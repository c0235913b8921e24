-- A group that was restored, among those of a node (ours).
use Rattle.std.specs.Prelude.{◌≡◌, ◌≢◌, ◌<◌, ◌≤◌, [], Bool, length, None, if◌then◌else◌}
use Rattle.std.specs.FinMap as finite
use Rattle.group_types.specs.Limits.{LONGEST_STRING, MOST_GROUPS}
use Rattle.group_types.specs.Text.{Text}
use Rattle.coord_node.specs.declared.restored.NamedGroup.{NamedGroup}
use Rattle.coord_node.specs.Coordinator.{Groups}
use Rattle.coord_node.specs.Nodes.{Named, NodeValue, held_of, with_named}

-- KIP-848, "ConsumerGroupHeartbeat API": a join names a group by a text that isn't empty, and fits the wire
pub record IsGroupId (name : Text) : Type 0 where
  pub some : name ≢ []
  pub short : length name ≤ LONGEST_STRING

-- one group more can be kept under the name
pub record CanBeKept (groups : Groups) (name : Text) : Type 0 where
  pub id : IsGroupId name
  pub absent : finite.get groups name ≡ None
  pub few : finite.len groups < MOST_GROUPS

-- the node, with one group more where it is kept
abbrev pub with_named_if : Bool → NodeValue → Named → NodeValue
with_named_if is_kept n g = if is_kept then with_named n g else n

-- a group that is listed
abbrev pub listed_named : NamedGroup → Named
listed_named g = (g.name.now, held_of g.group.now)
