-- The laws between runs of bytes and states: bytes begin with at most one, and what is behind it is then settled.
use Rattle.std.specs.Prelude.{◌≡◌, ℕ, List, ◌++◌, All, IfErr, Result}
use Rattle.std.specs.List.{flat_map}
use Rattle.flex_wire.specs.Laws.{BeginsNoOther}
use Rattle.coord_node.specs.Coordinator.{Answer, Coordinator, Event, opening}
use Rattle.coord_node.specs.Steps.{Run}
use Rattle.coord_node.specs.Nodes.{NodeValue}
use Rattle.replica_snapshots.specs.Groups.{named_fields, FitsNamed}
use Rattle.replica_snapshots.specs.Nodes.{head_fields, FitsHead, node_fields, FitsNode, SpellsNode, section_fields, FitsSection, IsOf, sections_of}
use Rattle.replica_snapshots.specs.Places.{place_fields, FitsPlace}
use Rattle.replica_snapshots.specs.Puttable.{CanPutSection}
use Rattle.replica_snapshots.specs.Restoring.{CanBeNode}
use Rattle.replica_snapshots.specs.Runs.{FitsEvent, HasFewOffsets}
use Rattle.replica_snapshots.specs.Spelling.{FitsNumber}
use Rattle.replica_snapshots.specs.Writing.{PutsSections}
use Rattle.replica_snapshots.specs.declared.fault.SnapshotFault.{SnapshotFault}
use Rattle.replica_snapshots.specs.declared.fault.SnapshotFault.TheVariants.{NoMemory}

-- Bytes begin with at most one group under its name.
abbrev pub OneGroupARun : Type 0
OneGroupARun = BeginsNoOther FitsNamed named_fields

-- Bytes begin with at most one head of a node.
abbrev pub OneHeadARun : Type 0
OneHeadARun = BeginsNoOther FitsHead head_fields

-- Bytes begin with at most one node.
abbrev pub OneNodeARun : Type 0
OneNodeARun = BeginsNoOther FitsNode node_fields

-- Bytes begin with a node of at most one coordinator, and what is behind it is then settled.
abbrev pub OneCoordinatorARun : Type 0
OneCoordinatorARun =
    (c d : Coordinator) (v w x y : List ℕ) → SpellsNode c v → SpellsNode d w → v ++ x ≡ w ++ y → (c ≡ d) × (x ≡ y)

-- Bytes begin with at most one place of a log.
abbrev pub OnePlaceARun : Type 0
OnePlaceARun = BeginsNoOther FitsPlace place_fields

-- The sections of a node, one behind the other, are the node, and where each of them fits, it fits.
abbrev pub SectionsMakeTheNode : Type 0
SectionsMakeTheNode =
    (n : NodeValue) → (flat_map section_fields (sections_of n) ≡ node_fields n) × (All FitsSection (sections_of n) → FitsNode n)

-- Whatever came to a coordinator since its opening, a node can be it: so a snapshot of it is never refused but for want of memory.
abbrev pub RunsCanBeNodes : Type 0
RunsCanBeNodes = (salt : ℕ) (events : List Event) (answers : List Answer) (c : Coordinator) → Run (opening salt) events answers c → CanBeNode c

-- A node to which a run comes: the salt and the events are those of the code, and no group has more offsets than a count can say.
pub record IsOfRun (n : NodeValue) : Type 0 where
  pub salt : ℕ
  pub events : List Event
  pub answers : List Answer
  pub coordinator : Coordinator
  pub fits : FitsNumber salt
  pub each : All FitsEvent events
  pub run : Run (opening salt) events answers coordinator
  pub few : HasFewOffsets coordinator
  pub of : IsOf coordinator n

-- Whatever came to a coordinator since its opening, each section of a node of it can be written, where no group has more offsets than a
-- count can say.
abbrev pub RunsWithFewOffsetsCanBeWritten : Type 0
RunsWithFewOffsetsCanBeWritten = (n : NodeValue) → IsOfRun n → All CanPutSection (sections_of n)

-- .. so a put of its sections is never refused but for want of memory.
abbrev pub RunsWithFewOffsetsArePut : Type 0
RunsWithFewOffsetsArePut =
    (n : NodeValue) (result : Result ℕ SnapshotFault) (old new : List ℕ) (from size : ℕ)
    → IsOfRun n → PutsSections result old new (sections_of n) from size → IfErr result (λ fault. fault ≡ NoMemory)
