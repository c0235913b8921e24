-- A node's fields, as its value and as its coordinator.
use Rattle.std.proofs.Common.{◌≡◌, List, [], ◌∷◌, map, refl, sym, ap, ◌∙◌}
use Rattle.std.specs.FinMap as finite
use Rattle.group_types.specs.Text.{Text}
use Rattle.group_types.specs.Group.{Group}
use Rattle.coord_node.specs.declared.node.Node.TheInside.{Inside}
use Rattle.coord_node.specs.Coordinator.{Coordinator}
use Rattle.coord_node.specs.Nodes.{NodeValue, coordinator_of, state_of}
use Rattle.coord_node.specs.NodeView.{Entries, entry_in, groups_of, named_in, node_view}

states_in : (es : Entries) → map state_of (map named_in es) ≡ map entry_in es
states_in [] = refl
states_in (e ∷ es) = ap (λ (l : List (Text × Group)). entry_in e ∷ l) (states_in es)

-- the groups by their names are those of the value
pub groups-in : (es : Entries) → finite.from_entries (map state_of (map named_in es)) ≡ groups_of es
groups-in es = ap finite.from_entries (states_in es)

-- the fields as the coordinator's state
abbrev pub state_in : Inside → Coordinator
state_in n = record { salt = n.salt; groups = groups_of n.groups.entries; image = n.image }

pub coordinator-is : (n : Inside) (v : NodeValue) → node_view n ≡ v → state_in n ≡ coordinator_of v
coordinator-is n v is = (λ i. record { salt = n.salt; groups = sym (groups-in n.groups.entries) i; image = n.image }) ∙ ap coordinator_of is
