-- The one spelling of each message, and which values have one: a column of fields to compare with
-- each schema of the Kafka protocol guide and of KIP-848, under the schema's names. Each structure
-- ends in its tagged fields (KIP-482).
use Rattle.std.specs.Prelude.{◌≡◌, ℕ, List, [], ◌∷◌, ◌++◌, Option, Some, None, IfSome, true, false, FitsSigned}
use Rattle.std.specs.Int.{w16, w32, w64}
use Rattle.flex_wire.specs.Spelling.{int16, int32, int64, uuid, FitsUuid, compact_string, compact_nullable_string, nullable_string, FitsText, FitsNullableText, mark, tagged_fields, FitsTaggedFields}
use Rattle.flex_wire.specs.Composed.{array, FitsArray, nullable_array, FitsNullableArray}
use Rattle.kip_msgs.specs.Values.{RequestHeaderValue, ResponseHeaderValue, TopicPartitionsValue, HeartbeatRequestValue, AssignmentValue, HeartbeatReplyValue, CommitRequestPartitionValue, CommitRequestTopicValue, CommitRequestValue, CommitReplyPartitionValue, CommitReplyTopicValue, CommitReplyValue, RequestValue, heartbeat_request, commit_request, ReplyValue, heartbeat_reply, commit_reply}
use Rattle.kip_msgs.specs.Api.{key_of, version_of}
use Rattle.kip_msgs.specs.declared.api.Api.{Api}
use Rattle.kip_msgs.specs.declared.api.Api.TheVariants.{Heartbeat, Commit}

-- Fields one after the other.
abbrev pub fields : List (List ℕ) → List ℕ
fields [] = []
fields (field ∷ others) = field ++ fields others

-- A nullable structure (Kafka protocol guide, "Protocol Primitive Types"): the byte that says whether it is there, then its fields.
unfoldable pub nullable_struct : {X : Type 0} → (X → List ℕ) → Option X → List ℕ
nullable_struct body None = mark false
nullable_struct body (Some x) = mark true ++ body x

-- Kafka protocol guide, "Request Header v2": request_api_key, request_api_version, correlation_id, client_id.
unfoldable pub request_header_fields : Api → RequestHeaderValue → List ℕ
request_header_fields api header = fields (
    int16 (key_of api)
    ∷ int16 (version_of api)
    ∷ int32 header.correlation_id
    ∷ nullable_string header.client_id
    ∷ tagged_fields header.tags
    ∷ [])

-- A request header whose fields have a spelling.
pub record FitsRequestHeader (header : RequestHeaderValue) : Type 0 where
  pub correlation_id : FitsSigned w32 header.correlation_id
  pub client_id : FitsNullableText header.client_id
  pub tags : FitsTaggedFields header.tags

-- Kafka protocol guide, "Response Header v1": correlation_id.
unfoldable pub response_header_fields : ResponseHeaderValue → List ℕ
response_header_fields header = fields (
    int32 header.correlation_id
    ∷ tagged_fields header.tags
    ∷ [])

-- A response header whose fields have a spelling.
pub record FitsResponseHeader (header : ResponseHeaderValue) : Type 0 where
  pub correlation_id : FitsSigned w32 header.correlation_id
  pub tags : FitsTaggedFields header.tags

-- KIP-848, "TopicPartitions": TopicId, Partitions.
unfoldable pub topic_partitions_fields : TopicPartitionsValue → List ℕ
topic_partitions_fields topic = fields (
    uuid topic.topic_id
    ∷ array int32 topic.partitions
    ∷ tagged_fields topic.tags
    ∷ [])

-- Partitions of a topic whose fields have a spelling.
pub record FitsTopicPartitions (topic : TopicPartitionsValue) : Type 0 where
  pub topic_id : FitsUuid topic.topic_id
  pub partitions : FitsArray (FitsSigned w32) topic.partitions
  pub tags : FitsTaggedFields topic.tags

-- KIP-848, "ConsumerGroupHeartbeatRequest", version 0: GroupId to TopicPartitions.
unfoldable pub heartbeat_request_fields : HeartbeatRequestValue → List ℕ
heartbeat_request_fields v = fields (
    compact_string v.group_id
    ∷ compact_string v.member_id
    ∷ int32 v.member_epoch
    ∷ compact_nullable_string v.instance_id
    ∷ compact_nullable_string v.rack_id
    ∷ int32 v.rebalance_timeout_ms
    ∷ nullable_array compact_string v.subscribed_topic_names
    ∷ compact_nullable_string v.server_assignor
    ∷ nullable_array topic_partitions_fields v.topic_partitions
    ∷ tagged_fields v.tags
    ∷ [])

-- A heartbeat whose fields have a spelling.
pub record FitsHeartbeatRequest (v : HeartbeatRequestValue) : Type 0 where
  pub group_id : FitsText v.group_id
  pub member_id : FitsText v.member_id
  pub member_epoch : FitsSigned w32 v.member_epoch
  pub instance_id : FitsNullableText v.instance_id
  pub rack_id : FitsNullableText v.rack_id
  pub rebalance_timeout_ms : FitsSigned w32 v.rebalance_timeout_ms
  pub subscribed_topic_names : FitsNullableArray FitsText v.subscribed_topic_names
  pub server_assignor : FitsNullableText v.server_assignor
  pub topic_partitions : FitsNullableArray FitsTopicPartitions v.topic_partitions
  pub tags : FitsTaggedFields v.tags

-- KIP-848, "Assignment": TopicPartitions.
unfoldable pub assignment_fields : AssignmentValue → List ℕ
assignment_fields assignment = fields (
    array topic_partitions_fields assignment.topic_partitions
    ∷ tagged_fields assignment.tags
    ∷ [])

-- An assignment whose fields have a spelling.
pub record FitsAssignment (assignment : AssignmentValue) : Type 0 where
  pub topic_partitions : FitsArray FitsTopicPartitions assignment.topic_partitions
  pub tags : FitsTaggedFields assignment.tags

-- KIP-848, "ConsumerGroupHeartbeatResponse", version 0: ThrottleTimeMs to Assignment.
unfoldable pub heartbeat_reply_fields : HeartbeatReplyValue → List ℕ
heartbeat_reply_fields v = fields (
    int32 v.throttle_time_ms
    ∷ int16 v.error_code
    ∷ compact_nullable_string v.error_message
    ∷ compact_nullable_string v.member_id
    ∷ int32 v.member_epoch
    ∷ int32 v.heartbeat_interval_ms
    ∷ nullable_struct assignment_fields v.assignment
    ∷ tagged_fields v.tags
    ∷ [])

-- A reply to a heartbeat whose fields have a spelling.
pub record FitsHeartbeatReply (v : HeartbeatReplyValue) : Type 0 where
  pub throttle_time_ms : FitsSigned w32 v.throttle_time_ms
  pub error_code : FitsSigned w16 v.error_code
  pub error_message : FitsNullableText v.error_message
  pub member_id : FitsNullableText v.member_id
  pub member_epoch : FitsSigned w32 v.member_epoch
  pub heartbeat_interval_ms : FitsSigned w32 v.heartbeat_interval_ms
  pub assignment : IfSome v.assignment FitsAssignment
  pub tags : FitsTaggedFields v.tags

-- Kafka protocol guide, "OffsetCommit Request v9", partitions: partition_index to committed_metadata.
unfoldable pub commit_request_partition_fields : CommitRequestPartitionValue → List ℕ
commit_request_partition_fields v = fields (
    int32 v.partition_index
    ∷ int64 v.committed_offset
    ∷ int32 v.committed_leader_epoch
    ∷ compact_nullable_string v.committed_metadata
    ∷ tagged_fields v.tags
    ∷ [])

-- An offset to be committed whose fields have a spelling.
pub record FitsCommitRequestPartition (v : CommitRequestPartitionValue) : Type 0 where
  pub partition_index : FitsSigned w32 v.partition_index
  pub committed_offset : FitsSigned w64 v.committed_offset
  pub committed_leader_epoch : FitsSigned w32 v.committed_leader_epoch
  pub committed_metadata : FitsNullableText v.committed_metadata
  pub tags : FitsTaggedFields v.tags

-- Kafka protocol guide, "OffsetCommit Request v9", topics: name, partitions.
unfoldable pub commit_request_topic_fields : CommitRequestTopicValue → List ℕ
commit_request_topic_fields v = fields (
    compact_string v.name
    ∷ array commit_request_partition_fields v.partitions
    ∷ tagged_fields v.tags
    ∷ [])

-- Offsets of a topic whose fields have a spelling.
pub record FitsCommitRequestTopic (v : CommitRequestTopicValue) : Type 0 where
  pub name : FitsText v.name
  pub partitions : FitsArray FitsCommitRequestPartition v.partitions
  pub tags : FitsTaggedFields v.tags

-- Kafka protocol guide, "OffsetCommit Request v9": group_id to topics.
unfoldable pub commit_request_fields : CommitRequestValue → List ℕ
commit_request_fields v = fields (
    compact_string v.group_id
    ∷ int32 v.generation_id_or_member_epoch
    ∷ compact_string v.member_id
    ∷ compact_nullable_string v.group_instance_id
    ∷ array commit_request_topic_fields v.topics
    ∷ tagged_fields v.tags
    ∷ [])

-- A commit whose fields have a spelling.
pub record FitsCommitRequest (v : CommitRequestValue) : Type 0 where
  pub group_id : FitsText v.group_id
  pub generation_id_or_member_epoch : FitsSigned w32 v.generation_id_or_member_epoch
  pub member_id : FitsText v.member_id
  pub group_instance_id : FitsNullableText v.group_instance_id
  pub topics : FitsArray FitsCommitRequestTopic v.topics
  pub tags : FitsTaggedFields v.tags

-- Kafka protocol guide, "OffsetCommit Response v9", partitions: partition_index, error_code.
unfoldable pub commit_reply_partition_fields : CommitReplyPartitionValue → List ℕ
commit_reply_partition_fields v = fields (
    int32 v.partition_index
    ∷ int16 v.error_code
    ∷ tagged_fields v.tags
    ∷ [])

-- A partition's answer whose fields have a spelling.
pub record FitsCommitReplyPartition (v : CommitReplyPartitionValue) : Type 0 where
  pub partition_index : FitsSigned w32 v.partition_index
  pub error_code : FitsSigned w16 v.error_code
  pub tags : FitsTaggedFields v.tags

-- Kafka protocol guide, "OffsetCommit Response v9", topics: name, partitions.
unfoldable pub commit_reply_topic_fields : CommitReplyTopicValue → List ℕ
commit_reply_topic_fields v = fields (
    compact_string v.name
    ∷ array commit_reply_partition_fields v.partitions
    ∷ tagged_fields v.tags
    ∷ [])

-- A topic's answers whose fields have a spelling.
pub record FitsCommitReplyTopic (v : CommitReplyTopicValue) : Type 0 where
  pub name : FitsText v.name
  pub partitions : FitsArray FitsCommitReplyPartition v.partitions
  pub tags : FitsTaggedFields v.tags

-- Kafka protocol guide, "OffsetCommit Response v9": throttle_time_ms, topics.
unfoldable pub commit_reply_fields : CommitReplyValue → List ℕ
commit_reply_fields v = fields (
    int32 v.throttle_time_ms
    ∷ array commit_reply_topic_fields v.topics
    ∷ tagged_fields v.tags
    ∷ [])

-- A reply to a commit whose fields have a spelling.
pub record FitsCommitReply (v : CommitReplyValue) : Type 0 where
  pub throttle_time_ms : FitsSigned w32 v.throttle_time_ms
  pub topics : FitsArray FitsCommitReplyTopic v.topics
  pub tags : FitsTaggedFields v.tags

-- A request's body (Kafka protocol guide, "Protocol Structure"): its header, which names the API, and the message.
unfoldable pub request_body : RequestValue → List ℕ
request_body (heartbeat_request header v) = request_header_fields Heartbeat header ++ heartbeat_request_fields v
request_body (commit_request header v) = request_header_fields Commit header ++ commit_request_fields v

-- A request whose fields have a spelling.
abbrev pub FitsRequest : RequestValue → Type 0
FitsRequest (heartbeat_request header v) = FitsRequestHeader header × FitsHeartbeatRequest v
FitsRequest (commit_request header v) = FitsRequestHeader header × FitsCommitRequest v

-- A reply's body (Kafka protocol guide, "Protocol Structure"): its header and the message.
unfoldable pub reply_body : ReplyValue → List ℕ
reply_body (heartbeat_reply header v) = response_header_fields header ++ heartbeat_reply_fields v
reply_body (commit_reply header v) = response_header_fields header ++ commit_reply_fields v

-- A reply whose fields have a spelling.
abbrev pub FitsReply : ReplyValue → Type 0
FitsReply (heartbeat_reply header v) = FitsResponseHeader header × FitsHeartbeatReply v
FitsReply (commit_reply header v) = FitsResponseHeader header × FitsCommitReply v

-- All of the body is the request.
pub record SpellsRequest (v : RequestValue) (body : List ℕ) : Type 0 where
  pub fits : FitsRequest v
  pub bytes : body ≡ request_body v

-- All of the body is the reply.
pub record SpellsReply (v : ReplyValue) (body : List ℕ) : Type 0 where
  pub fits : FitsReply v
  pub bytes : body ≡ reply_body v
