-- A node's fields as its value: what is known of the groups' views is forgotten.
use Rattle.std.specs.Prelude.{true, false, ◌≡◌, ◌<◌, ◌≤◌, List, [], ◌∷◌, ◌++◌, String, length, map}
use Rattle.std.specs.declared.alloc.Global.{Global}
use Rattle.std.specs.FinMap as finite
use Rattle.std.specs.List.{AllByRecursion}
use Rattle.std.specs.String.{string_bytes}
use Rattle.group_types.specs.declared.code.Code.TheVariants.{CoordinatorNotAvailable}
use Rattle.group_types.specs.Limits.{MOST_GROUPS}
use Rattle.group_types.specs.Text.{Text}
use Rattle.group_types.specs.Group.{Group}
use Rattle.group_types.specs.HeartbeatStep as group
use Rattle.coord_node.specs.declared.kept.Kept.{Kept}
use Rattle.coord_node.specs.declared.node.Node.TheInside.{Inside}
use Rattle.coord_node.specs.Coordinator.{Groups}
use Rattle.coord_node.specs.Nodes.{Named, NodeValue, held_of}
use Rattle.coord_node.specs.Answers.{succeeds}
use Rattle.coord_node.specs.Kept.{HasRightNumber, group_in}

-- in the order in which they were made
abbrev pub Entries : Type 0
Entries = List (String Global × Kept)

-- a group's state by the bytes of its name
abbrev pub entry_in : String Global × Kept → Text × Group
entry_in e = (string_bytes e.0, group_in e.1)

-- the groups by the bytes of their names
abbrev pub groups_of : Entries → Groups
groups_of entries = finite.from_entries (map entry_in entries)

-- a group under the bytes of its name
abbrev pub named_in : String Global × Kept → Named
named_in e = (string_bytes e.0, held_of e.1.group)

abbrev pub node_view : Inside → NodeValue
node_view n = record { salt = n.salt; image = n.image; groups = map named_in n.groups.entries }

-- what is known of each group
abbrev pub AreKept : Inside → Type 0
AreKept n = AllByRecursion (λ e. HasRightNumber n.generation n.image e.1) n.groups.entries

-- what holds of every node
pub record IsNode (n : Inside) : Type 0 where
  pub kept : AreKept n
  pub few : length n.groups.entries ≤ MOST_GROUPS

-- one more group, under a name, behind the others
pub record IsOneMore (old : Entries) (name : Text) (k : Kept) (new : Entries) : Type 0 where
  pub key : String Global
  pub named : string_bytes key ≡ name
  pub entries : new ≡ old ++ (key, k) ∷ []

-- A new group that answers with success is kept where there is room for one more; else COORDINATOR_NOT_AVAILABLE is answered.
pub data IsAdmitted (old : Entries) (name : Text) (k : Kept) (given answer : group.Answer) (new : Entries) : Type 0 where
  fails : succeeds given ≡ false → new ≡ old → answer ≡ given → IsAdmitted old name k given answer new
  kept : succeeds given ≡ true → finite.len (groups_of old) < MOST_GROUPS → IsOneMore old name k new → answer ≡ given → IsAdmitted old name k given answer new
  full : succeeds given ≡ true → MOST_GROUPS ≤ finite.len (groups_of old) → new ≡ old → answer ≡ group.Replied (group.refusal CoordinatorNotAvailable)
      → IsAdmitted old name k given answer new
