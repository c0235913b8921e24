-- A node's value: its coordinator, and what the coordinator's state leaves out, which is the order of the groups and since when each
-- partition is granted (ours).
use Rattle.std.specs.Prelude.{◌≡◌, ℕ, List, [], ◌∷◌, ◌++◌, length, map}
use Rattle.std.specs.FinMap as finite
use Rattle.group_types.specs.Text.{Text}
use Rattle.group_types.specs.Topics.{Topics}
use Rattle.group_types.specs.Group.{Group}
use Rattle.group_reconcile.specs.Holders.{Holders}
use Rattle.group_core.specs.Group.{GroupValue}
use Rattle.coord_node.specs.Coordinator.{Coordinator}

-- a group, and who holds which partition since which target
abbrev pub HeldGroup : Type 0
HeldGroup = Group × Holders

abbrev pub held_of : GroupValue → HeldGroup
held_of g = (g.state, g.holders)

-- a group under its name
abbrev pub Named : Type 0
Named = Text × HeldGroup

-- a node: its salt, its image, and its groups in the order of their making
pub record NodeValue : Type 0 where
  pub salt : ℕ
  pub image : Topics
  pub groups : List Named

abbrev pub node_opening : ℕ → NodeValue
node_opening salt = record { salt = salt; image = finite.empty; groups = [] }

-- a group's state under its name
abbrev pub state_of : Named → Text × Group
state_of g = (g.0, g.1.0)

-- the coordinator that a node is
abbrev pub coordinator_of : NodeValue → Coordinator
coordinator_of n = record { salt = n.salt; groups = finite.from_entries (map state_of n.groups); image = n.image }

-- the node with one group more, behind the others
abbrev pub with_named : NodeValue → Named → NodeValue
with_named n g = record n { groups = n.groups ++ g ∷ [] }

-- no two of a node's groups have one name
abbrev pub HasEachOnce : NodeValue → Type 0
HasEachOnce n = length n.groups ≡ finite.len (coordinator_of n).groups
