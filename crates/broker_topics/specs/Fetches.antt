-- What a Fetch gives of a partition's log (Kafka protocol guide, "Fetch API").
use Rattle.std.specs.Prelude.{◌≡◌, ◌≤ℤ◌, ℤ, pos, ℕ, Bool, List, []}
use Rattle.topic_logs.specs.Format.{natural}
use Rattle.topic_logs.specs.Log.{Log, start_offset, from_offset, served, joined}
use Rattle.broker_messages.specs.declared.fetch.FetchReplyPartition.{FetchReplyPartition}

-- The error codes (Kafka protocol guide, "Error Codes").
abbrev pub NONE : ℤ
NONE = pos 0

abbrev pub OFFSET_OUT_OF_RANGE : ℤ
OFFSET_OUT_OF_RANGE = pos 1

-- The log has a record at the offset, or ends there.
abbrev pub IsInLog : Log → ℤ → Type 0
IsInLog log offset = (pos (start_offset log) ≤ℤ offset) × (offset ≤ℤ pos log.end)

-- The records: whole batches in their order, from the one that holds the offset on, as many as have at most `room` bytes together. `whole` says that
-- the first one comes even if it has more.
abbrev pub records_from : Log → ℤ → Bool → ℕ → List ℕ
records_from log offset whole room = joined (served whole room (from_offset (natural offset) log.batches))

-- What is told of the log: its end, since all of it is committed, and its start.
pub record TellsLog (log : Log) (reply : FetchReplyPartition) : Type 0 where
  pub high_watermark : reply.high_watermark ≡ pos log.end
  pub last_stable_offset : reply.last_stable_offset ≡ pos log.end
  pub log_start_offset : reply.log_start_offset ≡ pos (start_offset log)

-- The offset is in the log, and the reply has the records from it on.
pub record HasRecords (log : Log) (offset : ℤ) (whole : Bool) (room : ℕ) (reply : FetchReplyPartition) : Type 0 where
  pub is_in : IsInLog log offset
  pub error : reply.error_code ≡ NONE
  pub records : reply.records.items ≡ records_from log offset whole room
  pub tells : TellsLog log reply

-- The offset isn't in the log, and the reply says so.
pub record IsOutOfRange (log : Log) (offset : ℤ) (reply : FetchReplyPartition) : Type 0 where
  pub is_out : ¬ IsInLog log offset
  pub error : reply.error_code ≡ OFFSET_OUT_OF_RANGE
  pub records : reply.records.items ≡ []
