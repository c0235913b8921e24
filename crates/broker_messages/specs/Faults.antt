-- The faults of messages.
use Rattle.flex_wire.specs.declared.fault.WireFault.{WireFault}
use Rattle.flex_wire.specs.declared.fault.WireFault.TheVariants as wire
use Rattle.broker_messages.specs.declared.fault.MessageFault.{MessageFault}
use Rattle.broker_messages.specs.declared.fault.MessageFault.TheVariants.{Wire, NoMemory}

-- A field's fault as a message's: the want of memory stands by itself.
abbrev pub message_fault : WireFault → MessageFault
message_fault wire.Short = Wire wire.Short
message_fault wire.NotShortest = Wire wire.NotShortest
message_fault wire.TooLong = Wire wire.TooLong
message_fault wire.NotUtf8 = Wire wire.NotUtf8
message_fault wire.TagOrder = Wire wire.TagOrder
message_fault wire.BadCount = Wire wire.BadCount
message_fault wire.BadMark = Wire wire.BadMark
message_fault wire.NoMemory = NoMemory
