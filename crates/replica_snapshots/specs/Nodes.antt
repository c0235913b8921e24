-- A node's spelling: its head, and then its groups under their names, in the order of their making (ours).
use Rattle.std.specs.Prelude.{◌≡◌, ℕ, ℤ, ◌-◌, pos, List, [], ◌∷◌, ◌++◌, length, map, take, drop, All}
use Rattle.std.specs.List.{flat_map}
use Rattle.std.specs.FinMap as finite
use Rattle.flex_wire.specs.Spelling.{int16, array_count, FitsCount}
use Rattle.flex_wire.specs.Composed.{array, FitsArray}
use Rattle.kip_msgs.specs.Spelling.{fields}
use Rattle.group_types.specs.Topics.{Topics}
use Rattle.coord_node.specs.Coordinator.{Coordinator}
use Rattle.coord_node.specs.Nodes.{Named, NodeValue, coordinator_of}
use Rattle.replica_snapshots.specs.Spelling.{number64, FitsNumber, topic_fields, FitsTopic}
use Rattle.replica_snapshots.specs.Groups.{named_fields, FitsNamed}

-- the version in which nodes are spelled
abbrev pub VERSION : ℤ
VERSION = pos 0

-- what stands in front of a node's groups: its salt, its image, and how many groups follow
pub record HeadValue : Type 0 where
  pub salt : ℕ
  pub image : Topics
  pub groups : ℕ

abbrev pub head_with : ℕ → Topics → ℕ → HeadValue
head_with salt image groups = record { salt = salt; image = image; groups = groups }

-- The head of a node.
unfoldable pub head_fields : HeadValue → List ℕ
head_fields h = fields (
    int16 VERSION
    ∷ number64 h.salt
    ∷ array topic_fields (finite.entries h.image)
    ∷ array_count h.groups
    ∷ [])

pub record FitsHead (h : HeadValue) : Type 0 where
  pub salt : FitsNumber h.salt
  pub image : FitsArray FitsTopic (finite.entries h.image)
  pub groups : FitsCount h.groups

abbrev pub head_of : NodeValue → HeadValue
head_of n = head_with n.salt n.image (length n.groups)

-- A node: its head, and its groups.
abbrev pub node_fields : NodeValue → List ℕ
node_fields n = head_fields (head_of n) ++ flat_map named_fields n.groups

pub record FitsNode (n : NodeValue) : Type 0 where
  pub head : FitsHead (head_of n)
  pub groups : All FitsNamed n.groups

-- ---- what a node's bytes say of its coordinator

-- A node as a coordinator: no two of its groups have one name.
pub record IsOf (c : Coordinator) (n : NodeValue) : Type 0 where
  pub coordinator : coordinator_of n ≡ c
  pub once : length n.groups ≡ finite.len c.groups

-- Bytes that spell a node of a coordinator.
pub record SpellsNode (c : Coordinator) (bytes : List ℕ) : Type 0 where
  pub node : NodeValue
  pub fits : FitsNode node
  pub spelled : bytes ≡ node_fields node
  pub of : IsOf c node

-- ---- the sections in which a node is written

-- its head, or one of its groups
pub data Section : Type 0 where
  Head : HeadValue → Section
  OneGroup : Named → Section

abbrev pub section_fields : Section → List ℕ
section_fields (Head h) = head_fields h
section_fields (OneGroup g) = named_fields g

abbrev pub FitsSection : Section → Type 0
FitsSection (Head h) = FitsHead h
FitsSection (OneGroup g) = FitsNamed g

-- the head, and each group
abbrev pub sections_of : NodeValue → List Section
sections_of n = Head (head_of n) ∷ map OneGroup n.groups

-- those from one number up to another
abbrev pub between : ℕ → ℕ → List Section → List Section
between from next sections = take (next - from) (drop from sections)
