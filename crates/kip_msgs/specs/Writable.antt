-- What a writer asks of a value: only the lengths, counts and tags, since its types keep the rest.
use Rattle.std.specs.Prelude.{◌≤◌, List, ℕ, Option, length, IfSome, All}
use Rattle.flex_wire.specs.Limits.{LONGEST_STRING}
use Rattle.flex_wire.specs.Spelling.{FitsCount, FitsTaggedFields}
use Rattle.kip_msgs.specs.Values.{RequestHeaderValue, TopicPartitionsValue, HeartbeatRequestValue, AssignmentValue, HeartbeatReplyValue, CommitRequestPartitionValue, CommitRequestTopicValue, CommitRequestValue, CommitReplyPartitionValue, CommitReplyTopicValue, CommitReplyValue, RequestValue, heartbeat_request, commit_request, ReplyValue, heartbeat_reply, commit_reply}

-- A text not longer than the greatest INT16 (Kafka protocol guide, "Protocol Primitive Types").
abbrev pub IsShort : List ℕ → Type 0
IsShort text = length text ≤ LONGEST_STRING

-- Such a text, or null.
abbrev pub IsShortIfAny : Option (List ℕ) → Type 0
IsShortIfAny text = IfSome text IsShort

-- An array of no more elements than its count can say, each of which can be written (KIP-482, COMPACT_ARRAY).
pub record IsWritableArray {X : Type 0} (Each : X → Type 0) (elements : List X) : Type 0 where
  pub count : FitsCount (length elements)
  pub each : All Each elements

-- A request's header (Kafka protocol guide, "Request Header v2").
pub record IsWritableHeader (header : RequestHeaderValue) : Type 0 where
  pub client_id : IsShortIfAny header.client_id
  pub tags : FitsTaggedFields header.tags

-- Partitions of a topic (KIP-848, "TopicPartitions").
pub record IsWritableTopic (topic : TopicPartitionsValue) : Type 0 where
  pub partitions : FitsCount (length topic.partitions)
  pub tags : FitsTaggedFields topic.tags

-- A heartbeat (KIP-848, "ConsumerGroupHeartbeatRequest").
pub record IsWritableHeartbeatRequest (v : HeartbeatRequestValue) : Type 0 where
  pub group_id : IsShort v.group_id
  pub member_id : IsShort v.member_id
  pub instance_id : IsShortIfAny v.instance_id
  pub rack_id : IsShortIfAny v.rack_id
  pub subscribed_topic_names : IfSome v.subscribed_topic_names (IsWritableArray IsShort)
  pub server_assignor : IsShortIfAny v.server_assignor
  pub topic_partitions : IfSome v.topic_partitions (IsWritableArray IsWritableTopic)
  pub tags : FitsTaggedFields v.tags

-- An assignment (KIP-848, "Assignment").
pub record IsWritableAssignment (assignment : AssignmentValue) : Type 0 where
  pub topic_partitions : IsWritableArray IsWritableTopic assignment.topic_partitions
  pub tags : FitsTaggedFields assignment.tags

-- A reply to a heartbeat (KIP-848, "ConsumerGroupHeartbeatResponse").
pub record IsWritableHeartbeatReply (v : HeartbeatReplyValue) : Type 0 where
  pub error_message : IsShortIfAny v.error_message
  pub member_id : IsShortIfAny v.member_id
  pub assignment : IfSome v.assignment IsWritableAssignment
  pub tags : FitsTaggedFields v.tags

-- An offset to be committed (Kafka protocol guide, "OffsetCommit Request v9", partitions).
pub record IsWritableCommitRequestPartition (v : CommitRequestPartitionValue) : Type 0 where
  pub committed_metadata : IsShortIfAny v.committed_metadata
  pub tags : FitsTaggedFields v.tags

-- Offsets of a topic (Kafka protocol guide, "OffsetCommit Request v9", topics).
pub record IsWritableCommitRequestTopic (v : CommitRequestTopicValue) : Type 0 where
  pub name : IsShort v.name
  pub partitions : IsWritableArray IsWritableCommitRequestPartition v.partitions
  pub tags : FitsTaggedFields v.tags

-- A commit (Kafka protocol guide, "OffsetCommit Request v9").
pub record IsWritableCommitRequest (v : CommitRequestValue) : Type 0 where
  pub group_id : IsShort v.group_id
  pub member_id : IsShort v.member_id
  pub group_instance_id : IsShortIfAny v.group_instance_id
  pub topics : IsWritableArray IsWritableCommitRequestTopic v.topics
  pub tags : FitsTaggedFields v.tags

-- A partition's answer (Kafka protocol guide, "OffsetCommit Response v9", partitions).
abbrev pub IsWritableCommitReplyPartition : CommitReplyPartitionValue → Type 0
IsWritableCommitReplyPartition v = FitsTaggedFields v.tags

-- A topic's answers (Kafka protocol guide, "OffsetCommit Response v9", topics).
pub record IsWritableCommitReplyTopic (v : CommitReplyTopicValue) : Type 0 where
  pub name : IsShort v.name
  pub partitions : IsWritableArray IsWritableCommitReplyPartition v.partitions
  pub tags : FitsTaggedFields v.tags

-- A reply to a commit (Kafka protocol guide, "OffsetCommit Response v9").
pub record IsWritableCommitReply (v : CommitReplyValue) : Type 0 where
  pub topics : IsWritableArray IsWritableCommitReplyTopic v.topics
  pub tags : FitsTaggedFields v.tags

-- A request with its header (Kafka protocol guide, "Request Header v2").
abbrev pub IsWritableRequest : RequestValue → Type 0
IsWritableRequest (heartbeat_request header v) = IsWritableHeader header × IsWritableHeartbeatRequest v
IsWritableRequest (commit_request header v) = IsWritableHeader header × IsWritableCommitRequest v

-- A reply with its header (Kafka protocol guide, "Response Header v1").
abbrev pub IsWritableReply : ReplyValue → Type 0
IsWritableReply (heartbeat_reply header v) = FitsTaggedFields header.tags × IsWritableHeartbeatReply v
IsWritableReply (commit_reply header v) = FitsTaggedFields header.tags × IsWritableCommitReply v
