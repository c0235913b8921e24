-- A replica's snapshot: the place in the log, and the node (ours).
use Rattle.std.specs.Prelude.{◌≡◌, ℕ, suc, ◌==◌, ◌<◌, ◌≤◌, ◌-◌, None, List, [], ◌++◌, length, All, Result, OnOk, OnErr, IfOk, IfErr, if◌then◌else◌}
use Rattle.std.specs.List.{flat_map}
use Rattle.coord_node.specs.Nodes.{HasEachOnce, NodeValue}
use Rattle.replica_snapshots.specs.declared.fault.SnapshotFault.{SnapshotFault}
use Rattle.replica_snapshots.specs.declared.fault.SnapshotFault.TheVariants.{NoMemory}
use Rattle.replica_snapshots.specs.Nodes.{IsOf, node_fields, FitsNode, section_fields, FitsSection, sections_of, between}
use Rattle.replica_snapshots.specs.Places.{PlaceValue, place_fields, FitsPlace}
use Rattle.replica_snapshots.specs.Puttable.{CanPutSection}
use Rattle.replica_snapshots.specs.Views.{listed_node, place_value}
use Rattle.coord_replica.specs.declared.snapshot.Snapshot.{Snapshot}
use Rattle.coord_replica.specs.Replicas.{LogState, ReplicaValue, log_of}

-- the place to which a log has come
abbrev pub place_of : LogState → PlaceValue
place_of s = record { applied = s.applied; leadership = s.leadership; moment = s.moment }

-- a place, and a node
pub record SnapshotValue : Type 0 where
  pub place : PlaceValue
  pub node : NodeValue

-- A snapshot: the place, and the node.
abbrev pub snapshot_fields : SnapshotValue → List ℕ
snapshot_fields v = place_fields v.place ++ node_fields v.node

-- A snapshot that has a spelling; no two groups have one name.
pub record FitsSnapshot (v : SnapshotValue) : Type 0 where
  pub place : FitsPlace v.place
  pub node : FitsNode v.node
  pub once : HasEachOnce v.node

-- the snapshot of a replica
abbrev pub snapshot_of : ReplicaValue → SnapshotValue
snapshot_of r = record { place = place_of (log_of r); node = r.node }

-- the replica that is restored of a snapshot: it doesn't lead
abbrev pub restored : SnapshotValue → ReplicaValue
restored v =
    record {
      node = v.node;
      applied = v.place.applied;
      leadership = v.place.leadership;
      moment = v.place.moment;
      leading = None;
      proposed = 0;
    }

-- ---- what a snapshot says of the log

-- It is that of what a beginning of the log comes to.
pub record IsSnapshotOf (s : LogState) (v : SnapshotValue) : Type 0 where
  pub place : v.place ≡ place_of s
  pub node : IsOf s.coordinator v.node

-- Bytes that spell what a beginning of the log comes to.
pub record SpellsLog (s : LogState) (bytes : List ℕ) : Type 0 where
  pub snapshot : SnapshotValue
  pub fits : FitsSnapshot snapshot
  pub spelled : bytes ≡ snapshot_fields snapshot
  pub of : IsSnapshotOf s snapshot

-- ---- written section by section

-- a snapshot as it is kept while it is written
abbrev pub snapshot_value : Snapshot → SnapshotValue
snapshot_value s = record { place = place_value s.place; node = listed_node s.sections }

-- what stands in front of a section: the place before the first
abbrev pub in_front : PlaceValue → ℕ → List ℕ
in_front place from = if from == 0 then place_fields place else []

-- the sections from one number up to another; the place stands in front of the first
abbrev pub part : SnapshotValue → ℕ → ℕ → List ℕ
part v from next = in_front v.place from ++ flat_map section_fields (between from next (sections_of v.node))

-- how many sections there are
abbrev pub sections_in : SnapshotValue → ℕ
sections_in v = length (sections_of v.node)

-- A part is appended, up to the next section that is to be written: until there are so many bytes of sections, and no further, or none is
-- left; at least one, where one is left. Or no byte changes. Where the place fits, and each section fits or can be written, only the want
-- of memory is in the way.
pub record PutsPart (result : Result ℕ SnapshotFault) (old new : List ℕ) (v : SnapshotValue) (from size : ℕ) : Type 0 where
  pub put : IfOk result (λ next. new ≡ old ++ part v from next)
  pub place : from ≡ 0 → OnOk result (FitsPlace v.place)
  pub fits : IfOk result (λ next. All FitsSection (between from next (sections_of v.node)))
  pub next : IfOk result (λ next. from < sections_in v → (from < next) × (next ≤ sections_in v))
  pub all : IfOk result (λ next. next < sections_in v → size ≤ length new - length old)
  pub short : IfOk result (λ next. suc from < next → length (flat_map section_fields (between from (next - 1) (sections_of v.node))) < size)
  pub none : IfOk result (λ next. sections_in v ≤ from → next ≡ from)
  pub err : OnErr result (new ≡ old)
  pub fitting : FitsPlace v.place → All FitsSection (sections_of v.node) → IfErr result (λ fault. fault ≡ NoMemory)
  pub can : FitsPlace v.place → All CanPutSection (sections_of v.node) → IfErr result (λ fault. fault ≡ NoMemory)
