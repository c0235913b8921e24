-- What a Produce does to a partition's log, and what its client is told (Kafka protocol guide, "Produce API").
use Rattle.std.specs.Prelude.{◌≡◌, ◌⊎◌, ℕ, ℤ, pos, negsuc, List}
use Rattle.topic_logs.specs.Log.{Log, start_offset}
use Rattle.topic_logs.specs.Append.{Accepts, Refuses}
use Rattle.topic_logs.specs.Codes.{code_of}
use Rattle.topic_logs.specs.declared.log.Appended.{Appended}
use Rattle.topic_logs.specs.declared.fault.AppendFault.{AppendFault}
use Rattle.broker_messages.specs.declared.produce.ProduceReplyPartition.{ProduceReplyPartition}

-- The epoch of the one leader that there ever is (ours).
abbrev pub LEADER_EPOCH : ℤ
LEADER_EPOCH = pos 0

-- The log has taken the batch, and the reply says at which offset.
pub record HasAppended (old new : Log) (bytes : List ℕ) (retain : ℕ) (reply : ProduceReplyPartition) : Type 0 where
  pub appended : Appended
  pub accepts : Accepts old new bytes LEADER_EPOCH retain appended
  pub error : reply.error_code ≡ pos 0
  pub base_offset : reply.base_offset ≡ pos appended.base_offset
  pub log_start_offset : reply.log_start_offset ≡ pos (start_offset new)

-- The log is as it was, and the reply has the fault's code and no offset.
pub record HasRefused (old new : Log) (bytes : List ℕ) (reply : ProduceReplyPartition) : Type 0 where
  pub fault : AppendFault
  pub refuses : Refuses fault old bytes
  pub same : new ≡ old
  pub error : reply.error_code ≡ code_of fault
  pub base_offset : reply.base_offset ≡ negsuc 0

abbrev pub Produces : Log → Log → List ℕ → ℕ → ProduceReplyPartition → Type 0
Produces old new bytes retain reply = HasAppended old new bytes retain reply ⊎ HasRefused old new bytes reply
