-- The ids that a node's groups make (ours): all are of the node's salt.
use Rattle.std.specs.Prelude.{◌≡◌, ℕ, List, Some}
use Rattle.std.specs.FinMap as finite
use Rattle.group_types.specs.Text.{Text}
use Rattle.group_types.specs.Group.{Group}
use Rattle.coord_node.specs.Coordinator.{Coordinator, Event, Answer, opening}
use Rattle.coord_node.specs.Steps.{Run}

-- each group has the salt
abbrev pub HasSalt : ℕ → Coordinator → Type 0
HasSalt salt c = (name : Text) (g : Group) → finite.get c.groups name ≡ Some g → g.salt ≡ salt

abbrev pub GroupsHaveTheNodesSalt : Type 0
GroupsHaveTheNodesSalt =
    (salt : ℕ) (events : List Event) (answers : List Answer) (c : Coordinator) → Run (opening salt) events answers c → HasSalt salt c
