-- The faults of replicas.
use Rattle.std.specs.Prelude.{ℕ, ◌+◌}
use Rattle.topic_meta.specs.Faults as topics
use Rattle.topic_meta.specs.declared.image_fault.ImageFault.{ImageFault}
use Rattle.topic_meta.specs.declared.image_fault.ImageFault.TheVariants as image
use Rattle.replica_entries.specs.Faults as entries
use Rattle.replica_entries.specs.declared.fault.EntryFault.{EntryFault}
use Rattle.replica_entries.specs.declared.fault.EntryFault.TheVariants as entry
use Rattle.coord_replica.specs.declared.fault.ReplicaFault.{ReplicaFault}
use Rattle.coord_replica.specs.declared.fault.ReplicaFault.TheVariants.{NoMemory, OutOfPlace, OtherLeadership, EarlierMoment, NotLeading, BadEntry, BadTopics}

-- the numbers of the faults: 1 to 5, 11 to 16 and 21 to 24 (ours)
abbrev pub replica_fault_number : ReplicaFault → ℕ
replica_fault_number NoMemory = 1
replica_fault_number OutOfPlace = 2
replica_fault_number OtherLeadership = 3
replica_fault_number EarlierMoment = 4
replica_fault_number NotLeading = 5
replica_fault_number (BadEntry fault) = 10 + entries.fault_number fault
replica_fault_number (BadTopics fault) = 20 + topics.fault_number fault

-- the fault of an entry: the want of memory stands by itself
abbrev pub fault_of_entry : EntryFault → ReplicaFault
fault_of_entry (entry.Wire fault) = BadEntry (entry.Wire fault)
fault_of_entry entry.UnknownVersion = BadEntry entry.UnknownVersion
fault_of_entry entry.UnknownKind = BadEntry entry.UnknownKind
fault_of_entry entry.BadNumber = BadEntry entry.BadNumber
fault_of_entry entry.BadBody = BadEntry entry.BadBody
fault_of_entry entry.LeftOver = BadEntry entry.LeftOver
fault_of_entry entry.NoMemory = NoMemory

-- the fault of topics: the want of memory stands by itself
abbrev pub fault_of_topics : ImageFault → ReplicaFault
fault_of_topics image.DuplicateName = BadTopics image.DuplicateName
fault_of_topics image.DuplicateId = BadTopics image.DuplicateId
fault_of_topics image.TooMany = BadTopics image.TooMany
fault_of_topics image.BadCount = BadTopics image.BadCount
fault_of_topics image.NoMemory = NoMemory
