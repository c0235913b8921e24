-- The faults of messages.
use Rattle.std.specs.Prelude.{ℕ}
use Rattle.flex_wire.specs.declared.fault.WireFault.{WireFault}
use Rattle.flex_wire.specs.declared.fault.WireFault.TheVariants as wire
use Rattle.kip_msgs.specs.declared.fault.MsgFault.{MsgFault}
use Rattle.kip_msgs.specs.declared.fault.MsgFault.TheVariants.{Wire, UnknownApi, UnknownVersion, LeftOver, NoMemory}

-- The numbers of the faults, from 1.
abbrev pub fault_number : MsgFault → ℕ
fault_number (Wire _) = 1
fault_number UnknownApi = 2
fault_number UnknownVersion = 3
fault_number LeftOver = 4
fault_number NoMemory = 5

-- A field's fault as a message's: the want of memory stands by itself.
abbrev pub message_fault : WireFault → MsgFault
message_fault wire.Short = Wire wire.Short
message_fault wire.NotShortest = Wire wire.NotShortest
message_fault wire.TooLong = Wire wire.TooLong
message_fault wire.NotUtf8 = Wire wire.NotUtf8
message_fault wire.TagOrder = Wire wire.TagOrder
message_fault wire.BadCount = Wire wire.BadCount
message_fault wire.BadMark = Wire wire.BadMark
message_fault wire.NoMemory = NoMemory
