-- What C reads of a coordinator or a replica.
use Rattle.std.specs.Prelude.{◌≡◌, ◌+◌, ◌-◌, ◌^◌, ◌==◌, ◌||◌, not, ℕ, ℤ, pos, negsuc, Bool, true, false, List, [], length, take, IfSome, Option, Some, None, Ok, option_map}
use Rattle.std.specs.FinMap as finite
use Rattle.group_types.specs.declared.epoch.Epoch.{Epoch}
use Rattle.group_types.specs.declared.epoch.Epoch.TheVariants.{At, Away}
use Rattle.group_types.specs.Text.{Text}
use Rattle.group_types.specs.Group.{Committed, Group}
use Rattle.topic_meta.specs.declared.image_fault.ImageFault.{ImageFault}
use Rattle.topic_meta.specs.Faults.{fault_number}
use Rattle.coord_node.specs.declared.event.Answered.TheVariants as answered
use Rattle.coord_replica.specs.declared.applied.Applied.{Applied}
use Rattle.coord_replica.specs.declared.applied.Applied.TheVariants as applied
use Rattle.coord_replica.specs.declared.fault.ReplicaFault.{ReplicaFault}
use Rattle.coord_replica.specs.declared.fault.ReplicaFault.TheVariants as replica
use Rattle.coord_replica.specs.Applying.{AppliesBytes, IsHeldUp}
use Rattle.coord_replica.specs.Faults.{replica_fault_number}
use Rattle.coord_replica.specs.Proposing.{IsUnproposed, IsUnwritten, next_leadership, under_present}
use Rattle.coord_replica.specs.Replicas.{LogState, ReplicaState, ReplicaValue}
use Rattle.replica_entries.specs.Values.{ContentValue}
use Rattle.replica_snapshots.specs.declared.fault.SnapshotFault.{SnapshotFault}
use Rattle.replica_snapshots.specs.declared.fault.SnapshotFault.TheVariants as snapshot
use Rattle.replica_snapshots.specs.Faults as snapshots
use Rattle.coord_replica.specs.Snapshots.{PutsPart, snapshot_of}

-- KIP-848, "Static Membership": a static member that is away has the epoch -2
abbrev pub epoch_shown : Epoch → ℤ
epoch_shown (At epoch) = pos epoch
epoch_shown Away = negsuc 1

-- the member epoch of a member, and the one before it, where the group is there and has the member
abbrev pub epochs_shown : Option Group → Text → Option (ℤ × ℤ)
epochs_shown None member = None
epochs_shown (Some g) member = option_map (λ r. (epoch_shown r.epoch, pos r.previous_epoch)) (finite.get g.records member)

-- 1 for yes
abbrev pub yes_or_no : Bool → ℤ
yes_or_no true = pos 1
yes_or_no false = pos 0

-- 0 where a list of topics has no fault
abbrev pub fault_shown : Option ImageFault → ℤ
fault_shown None = pos 0
fault_shown (Some fault) = pos (fault_number fault)

-- the most that a size can be, where there is no text
abbrev pub size_shown : Option Text → ℕ
size_shown None = 2 ^ 64 - 1
size_shown (Some text) = length text

-- what C reads of a commit, with the buffer that it gave
pub record CommittedShown : Type 0 where
  pub offset : ℤ
  pub leader_epoch : ℤ
  pub metadata : List ℕ
  pub size : ℕ

-- it is what was committed; the metadata stands at the front of the buffer
pub record ShowsCommitted (it : Committed) (shown : CommittedShown) : Type 0 where
  pub offset : shown.offset ≡ it.offset
  pub leader_epoch : shown.leader_epoch ≡ it.leader_epoch
  pub size : shown.size ≡ size_shown it.metadata
  pub metadata : IfSome it.metadata (λ text. take (length text) shown.metadata ≡ text)

-- ---- of a replica

-- the number of a fault; -2 where memory is short
abbrev pub replica_fault_shown : ReplicaFault → ℤ
replica_fault_shown replica.NoMemory = negsuc 1
replica_fault_shown replica.OutOfPlace = pos 2
replica_fault_shown replica.OtherLeadership = pos 3
replica_fault_shown replica.EarlierMoment = pos 4
replica_fault_shown replica.NotLeading = pos 5
replica_fault_shown (replica.BadEntry fault) = pos (replica_fault_number (replica.BadEntry fault))
replica_fault_shown (replica.BadTopics fault) = pos (replica_fault_number (replica.BadTopics fault))

-- 1 where the connection of a frame closes; the number of the fault by which an entry was passed over; and else 0
abbrev pub applied_shown : Applied → ℤ
applied_shown (applied.Frame leadership connection number answered.Replied) = pos 0
applied_shown (applied.Frame leadership connection number answered.Closes) = pos 1
applied_shown (applied.Tick removed) = pos 0
applied_shown applied.Topics = pos 0
applied_shown (applied.Leads leadership) = pos 0
applied_shown (applied.PassedOver fault) = replica_fault_shown fault

-- the number of a frame's connection
abbrev pub connection_shown : Applied → ℕ
connection_shown (applied.Frame leadership connection number answered) = connection
connection_shown (applied.Tick removed) = 0
connection_shown applied.Topics = 0
connection_shown (applied.Leads leadership) = 0
connection_shown (applied.PassedOver fault) = 0

-- the number of a frame, or how many members a tick removed
abbrev pub frame_shown : Applied → ℕ
frame_shown (applied.Frame leadership connection number answered) = number
frame_shown (applied.Tick removed) = removed
frame_shown applied.Topics = 0
frame_shown (applied.Leads leadership) = 0
frame_shown (applied.PassedOver fault) = 0

-- Whether the code says that the place was applied. It wasn't after 2, another place than the next, and 12, an unknown version; nor where
-- the slot has no replica, or memory is short.
abbrev pub is_applied : ℤ → Bool
is_applied (pos code) = not (code == 2 || code == 12)
is_applied (negsuc _) = false

-- what is told of a place that was applied
pub record Told : Type 0 where
  pub code : ℤ
  pub leadership : ℕ
  pub connection : ℕ
  pub frame : ℕ

-- The bytes were applied, and what is told of it.
pub record TellsApplied (old : ReplicaState) (bytes : List ℕ) (new : ReplicaState) (before after : List ℕ) (told : Told) : Type 0 where
  pub what : Applied
  pub applies : AppliesBytes old bytes what new before after
  pub code : told.code ≡ applied_shown what
  pub leadership : told.leadership ≡ new.log.leadership
  pub connection : told.connection ≡ connection_shown what
  pub frame : told.frame ≡ frame_shown what

-- why no leadership is proposed
abbrev pub IsUnled : ReplicaState → ℤ → Type 0
IsUnled r code = (fault : ReplicaFault) × IsUnwritten (next_leadership r) fault × (code ≡ replica_fault_shown fault)

-- why an entry is not proposed
abbrev pub IsRefused : ReplicaState → ContentValue → ℤ → Type 0
IsRefused r content code = (fault : ReplicaFault) × IsUnproposed r (under_present r content) fault × (code ≡ replica_fault_shown fault)

-- why nothing is applied
abbrev pub IsUnapplied : LogState → ℕ → List ℕ → ℤ → Type 0
IsUnapplied s place bytes code = (fault : ReplicaFault) × IsHeldUp s place bytes fault × (code ≡ replica_fault_shown fault)

-- ---- of snapshots

-- the number of a snapshot's fault behind 30; -2 where memory is short
abbrev pub snapshot_fault_shown : SnapshotFault → ℤ
snapshot_fault_shown snapshot.NoMemory = negsuc 1
snapshot_fault_shown (snapshot.Wire fault place) = pos (30 + snapshots.fault_number (snapshot.Wire fault place))
snapshot_fault_shown (snapshot.BadValue place) = pos (30 + snapshots.fault_number (snapshot.BadValue place))
snapshot_fault_shown (snapshot.Unsound place) = pos (30 + snapshots.fault_number (snapshot.Unsound place))
snapshot_fault_shown (snapshot.Respelled place) = pos (30 + snapshots.fault_number (snapshot.Respelled place))
snapshot_fault_shown snapshot.TooLong = pos (30 + snapshots.fault_number snapshot.TooLong)

-- the bytes are the sections of the replica's snapshot from one number up to the next
abbrev pub IsPart : ReplicaValue → ℕ → ℕ → ℕ → List ℕ → Type 0
IsPart r from size next bytes = PutsPart (Ok next) [] bytes (snapshot_of r) from size

-- why no part, or no replica, was made of a snapshot
abbrev pub IsSnapshotFault : ℤ → Type 0
IsSnapshotFault code = (fault : SnapshotFault) × (code ≡ snapshot_fault_shown fault)
