-- The faults of snapshots.
use Rattle.std.specs.Prelude.{ℕ, Option, Some, None}
use Rattle.replica_snapshots.specs.declared.fault.SnapshotFault.{SnapshotFault}
use Rattle.replica_snapshots.specs.declared.fault.SnapshotFault.TheVariants.{Wire, BadValue, Unsound, Respelled, TooLong, NoMemory}

-- the numbers of the faults, from 1 (ours)
abbrev pub fault_number : SnapshotFault → ℕ
fault_number (Wire fault place) = 1
fault_number (BadValue place) = 2
fault_number (Unsound place) = 3
fault_number (Respelled place) = 4
fault_number TooLong = 5
fault_number NoMemory = 6

-- the byte that a fault is at, where it is one of bytes
abbrev pub fault_place : SnapshotFault → Option ℕ
fault_place (Wire fault place) = Some place
fault_place (BadValue place) = Some place
fault_place (Unsound place) = Some place
fault_place (Respelled place) = Some place
fault_place TooLong = None
fault_place NoMemory = None
