-- The error codes of faults (Kafka protocol guide, "Error Codes").
use Rattle.std.specs.Prelude.{ℤ, pos}
use Rattle.topic_logs.specs.declared.fault.BatchFault.{BatchFault}
use Rattle.topic_logs.specs.declared.fault.BatchFault.TheVariants as batch
use Rattle.topic_logs.specs.declared.fault.AppendFault.{AppendFault}
use Rattle.topic_logs.specs.declared.fault.AppendFault.TheVariants as fault

-- CORRUPT_MESSAGE, or INVALID_RECORD
abbrev pub code_of_batch : BatchFault → ℤ
code_of_batch batch.Cut = pos 2
code_of_batch batch.WrongVersion = pos 87
code_of_batch batch.WrongLength = pos 2
code_of_batch batch.WrongChecksum = pos 2
code_of_batch batch.WrongCount = pos 87
code_of_batch batch.LeftOver = pos 87
code_of_batch batch.Control = pos 87
code_of_batch batch.NoSequence = pos 87

-- that of the batch's fault, OUT_OF_ORDER_SEQUENCE_NUMBER, INVALID_PRODUCER_EPOCH, or KAFKA_STORAGE_ERROR if the log has no room
abbrev pub code_of : AppendFault → ℤ
code_of (fault.Batch f) = code_of_batch f
code_of fault.OutOfOrder = pos 45
code_of fault.OldEpoch = pos 47
code_of fault.NoOffsets = pos 56
code_of fault.NoMemory = pos 56
