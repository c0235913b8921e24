-- A replica that is restored of a snapshot's bytes.
use Rattle.std.proofs.Common.{◌≡◌, ℕ, List, [], ◌++◌, ap, ◌∙◌, append-nil}
use Rattle.coord_node.specs.Nodes.{HasEachOnce, NodeValue}
use Rattle.replica_snapshots.specs.Nodes.{FitsNode, node_fields}
use Rattle.replica_snapshots.specs.Places.{PlaceValue, place_fields, FitsPlace}
use Rattle.coord_replica.specs.Replicas.{ReplicaValue}
use Rattle.coord_replica.specs.Snapshots.{FitsSnapshot, SnapshotValue, restored, snapshot_fields}

-- a replica at a place, of a node's bytes and no more
abbrev pub IsAtPlace : PlaceValue → List ℕ → ReplicaValue → Type 0
IsAtPlace p written r =
    (n : NodeValue) × FitsNode n × HasEachOnce n × (written ≡ node_fields n) × (r ≡ restored (record { place = p; node = n }))

-- a replica of a snapshot's bytes
abbrev pub IsRestored : List ℕ → ReplicaValue → Type 0
IsRestored bytes r = (v : SnapshotValue) × FitsSnapshot v × (bytes ≡ snapshot_fields v) × (r ≡ restored v)

-- a node's bytes, with nothing behind them
pub all_of : (n : NodeValue) (written rest : List ℕ) → written ≡ node_fields n ++ rest → rest ≡ [] → written ≡ node_fields n
all_of n written rest is none = is ∙ (ap (λ (l : List ℕ). node_fields n ++ l) none ∙ append-nil (node_fields n))

-- the bytes of a place, and of a node behind it
pub restored_of : (p : PlaceValue) (bytes written : List ℕ) (r : ReplicaValue) → FitsPlace p → bytes ≡ place_fields p ++ written
    → IsAtPlace p written r → IsRestored bytes r
restored_of p bytes written r fits is at = (
  record { place = p; node = at.0 },
  record { place = fits; node = at.1; once = at.2 },
  is ∙ ap (λ (l : List ℕ). place_fields p ++ l) at.3,
  at.4,
)
