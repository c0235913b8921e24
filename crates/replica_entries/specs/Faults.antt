-- The faults of entries.
use Rattle.std.specs.Prelude.{ℕ}
use Rattle.flex_wire.specs.declared.fault.WireFault.{WireFault}
use Rattle.flex_wire.specs.declared.fault.WireFault.TheVariants as wire
use Rattle.replica_entries.specs.declared.fault.EntryFault.{EntryFault}
use Rattle.replica_entries.specs.declared.fault.EntryFault.TheVariants.{Wire, UnknownVersion, UnknownKind, BadNumber, BadBody, LeftOver, NoMemory}

-- the numbers of the faults, from 1 (ours)
abbrev pub fault_number : EntryFault → ℕ
fault_number (Wire _) = 1
fault_number UnknownVersion = 2
fault_number UnknownKind = 3
fault_number BadNumber = 4
fault_number BadBody = 5
fault_number LeftOver = 6
fault_number NoMemory = 7

-- a field's fault as an entry's: the want of memory stands by itself
abbrev pub entry_fault : WireFault → EntryFault
entry_fault wire.Short = Wire wire.Short
entry_fault wire.NotShortest = Wire wire.NotShortest
entry_fault wire.TooLong = Wire wire.TooLong
entry_fault wire.NotUtf8 = Wire wire.NotUtf8
entry_fault wire.TagOrder = Wire wire.TagOrder
entry_fault wire.BadCount = Wire wire.BadCount
entry_fault wire.BadMark = Wire wire.BadMark
entry_fault wire.NoMemory = NoMemory
