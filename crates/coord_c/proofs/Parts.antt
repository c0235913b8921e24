-- Parts of snapshots.
use Rattle.std.proofs.Common.{◌≡◌, ℕ, List, [], Result, Ok, Err, subst}
use Rattle.std.specs.Prelude.{IfOk}
use Rattle.replica_snapshots.specs.declared.fault.SnapshotFault.{SnapshotFault}
use Rattle.coord_replica.specs.Replicas.{ReplicaValue}
use Rattle.coord_replica.specs.Snapshots.{PutsPart, SnapshotValue, snapshot_of}
use Rattle.coord_c.specs.Reads.{IsPart}

-- what is put behind nothing is a part
pub part_of_put : (result : Result ℕ SnapshotFault) (r : ReplicaValue) (v : SnapshotValue) (old new : List ℕ) (from size : ℕ)
    → v ≡ snapshot_of r → old ≡ [] → PutsPart result old new v from size → IfOk result (λ next. IsPart r from size next new)
part_of_put (Ok next) r v old new from size is none put =
    subst (λ (w : SnapshotValue). PutsPart (Ok next) [] new w from size) is (subst (λ (l : List ℕ). PutsPart (Ok next) l new v from size) none put)
part_of_put (Err e) r v old new from size is none put = tt
