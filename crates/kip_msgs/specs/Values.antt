-- The messages as plain values: texts are the lists of their bytes, and uuids the sixteen bytes.
use Rattle.std.specs.Prelude.{ℕ, ℤ, List, Option}
use Rattle.flex_wire.specs.Spelling.{Tagged}
use Rattle.kip_msgs.specs.declared.api.Api.{Api}
use Rattle.kip_msgs.specs.declared.api.Api.TheVariants.{Heartbeat, Commit}

-- A request's header but for the key and version (Kafka protocol guide, "Request Header v2").
pub record RequestHeaderValue : Type 0 where
  pub correlation_id : ℤ
  pub client_id : Option (List ℕ)
  pub tags : List Tagged

-- A response's header (Kafka protocol guide, "Response Header v1").
pub record ResponseHeaderValue : Type 0 where
  pub correlation_id : ℤ
  pub tags : List Tagged

-- Partitions of one topic (KIP-848, "TopicPartitions").
pub record TopicPartitionsValue : Type 0 where
  pub topic_id : List ℕ
  pub partitions : List ℤ
  pub tags : List Tagged

-- A heartbeat (KIP-848, "ConsumerGroupHeartbeatRequest").
pub record HeartbeatRequestValue : Type 0 where
  pub group_id : List ℕ
  pub member_id : List ℕ
  pub member_epoch : ℤ
  pub instance_id : Option (List ℕ)
  pub rack_id : Option (List ℕ)
  pub rebalance_timeout_ms : ℤ
  pub subscribed_topic_names : Option (List (List ℕ))
  pub server_assignor : Option (List ℕ)
  pub topic_partitions : Option (List TopicPartitionsValue)
  pub tags : List Tagged

-- What a member is to own (KIP-848, "Assignment").
pub record AssignmentValue : Type 0 where
  pub topic_partitions : List TopicPartitionsValue
  pub tags : List Tagged

-- The answer to a heartbeat (KIP-848, "ConsumerGroupHeartbeatResponse").
pub record HeartbeatReplyValue : Type 0 where
  pub throttle_time_ms : ℤ
  pub error_code : ℤ
  pub error_message : Option (List ℕ)
  pub member_id : Option (List ℕ)
  pub member_epoch : ℤ
  pub heartbeat_interval_ms : ℤ
  pub assignment : Option AssignmentValue
  pub tags : List Tagged

-- An offset of one partition to be committed (Kafka protocol guide, "OffsetCommit Request v9", partitions).
pub record CommitRequestPartitionValue : Type 0 where
  pub partition_index : ℤ
  pub committed_offset : ℤ
  pub committed_leader_epoch : ℤ
  pub committed_metadata : Option (List ℕ)
  pub tags : List Tagged

-- Offsets of one topic to be committed (Kafka protocol guide, "OffsetCommit Request v9", topics).
pub record CommitRequestTopicValue : Type 0 where
  pub name : List ℕ
  pub partitions : List CommitRequestPartitionValue
  pub tags : List Tagged

-- A commit of offsets (Kafka protocol guide, "OffsetCommit Request v9").
pub record CommitRequestValue : Type 0 where
  pub group_id : List ℕ
  pub generation_id_or_member_epoch : ℤ
  pub member_id : List ℕ
  pub group_instance_id : Option (List ℕ)
  pub topics : List CommitRequestTopicValue
  pub tags : List Tagged

-- What came of one partition (Kafka protocol guide, "OffsetCommit Response v9", partitions).
pub record CommitReplyPartitionValue : Type 0 where
  pub partition_index : ℤ
  pub error_code : ℤ
  pub tags : List Tagged

-- What came of one topic's partitions (Kafka protocol guide, "OffsetCommit Response v9", topics).
pub record CommitReplyTopicValue : Type 0 where
  pub name : List ℕ
  pub partitions : List CommitReplyPartitionValue
  pub tags : List Tagged

-- The answer to a commit (Kafka protocol guide, "OffsetCommit Response v9").
pub record CommitReplyValue : Type 0 where
  pub throttle_time_ms : ℤ
  pub topics : List CommitReplyTopicValue
  pub tags : List Tagged

-- A request of one of the APIs, with its header.
pub data RequestValue : Type 0 where
  heartbeat_request : RequestHeaderValue → HeartbeatRequestValue → RequestValue
  commit_request : RequestHeaderValue → CommitRequestValue → RequestValue

-- A reply of one of the APIs, with its header.
pub data ReplyValue : Type 0 where
  heartbeat_reply : ResponseHeaderValue → HeartbeatReplyValue → ReplyValue
  commit_reply : ResponseHeaderValue → CommitReplyValue → ReplyValue

-- The API that a reply is of; its bytes don't name it.
abbrev pub reply_api : ReplyValue → Api
reply_api (heartbeat_reply header v) = Heartbeat
reply_api (commit_reply header v) = Commit
