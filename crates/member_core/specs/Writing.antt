-- Requests that can be written but for the number of elements in their arrays, and how many elements are too many.
use Rattle.std.specs.Prelude.{ℕ, Bool, true, ◌&&◌, nat_le, List, length, Option, Some, None, IfSome, All}
use Rattle.std.specs.List.{list_all}
use Rattle.flex_wire.specs.Spelling.{FitsTaggedFields}
use Rattle.kip_msgs.specs.Values.{TopicPartitionsValue, HeartbeatRequestValue, CommitRequestTopicValue, CommitRequestValue, RequestValue, heartbeat_request, commit_request}
use Rattle.kip_msgs.specs.Writable.{IsShort, IsShortIfAny, IsWritableHeader, IsWritableCommitRequestPartition}
use Rattle.group_types.specs.Limits.{LARGEST_BODY}

-- ---- texts and tagged fields that can be written

pub record HasShortHeartbeat (v : HeartbeatRequestValue) : Type 0 where
  pub group_id : IsShort v.group_id
  pub member_id : IsShort v.member_id
  pub instance_id : IsShortIfAny v.instance_id
  pub rack_id : IsShortIfAny v.rack_id
  pub subscribed_topic_names : IfSome v.subscribed_topic_names (All IsShort)
  pub server_assignor : IsShortIfAny v.server_assignor
  pub topic_partitions : IfSome v.topic_partitions (All (λ t. FitsTaggedFields t.tags))
  pub tags : FitsTaggedFields v.tags

-- a topic of a commit
pub record HasShortTopic (t : CommitRequestTopicValue) : Type 0 where
  pub name : IsShort t.name
  pub partitions : All IsWritableCommitRequestPartition t.partitions
  pub tags : FitsTaggedFields t.tags

pub record HasShortCommit (v : CommitRequestValue) : Type 0 where
  pub group_id : IsShort v.group_id
  pub member_id : IsShort v.member_id
  pub group_instance_id : IsShortIfAny v.group_instance_id
  pub topics : All HasShortTopic v.topics
  pub tags : FitsTaggedFields v.tags

abbrev pub HasShortRequest : RequestValue → Type 0
HasShortRequest (heartbeat_request header v) = IsWritableHeader header × HasShortHeartbeat v
HasShortRequest (commit_request header v) = IsWritableHeader header × HasShortCommit v

-- ---- the number of elements: each takes at least a byte, so there are no more of them than bytes in a body

abbrev pub is_few : ℕ → Bool
is_few count = nat_le count LARGEST_BODY

abbrev pub are_few_names : Option (List (List ℕ)) → Bool
are_few_names None = true
are_few_names (Some names) = is_few (length names)

abbrev pub are_few_owned : Option (List TopicPartitionsValue) → Bool
are_few_owned None = true
are_few_owned (Some topics) = is_few (length topics) && list_all (λ t. is_few (length t.partitions)) topics

abbrev pub are_few_offsets : List CommitRequestTopicValue → Bool
are_few_offsets topics = is_few (length topics) && list_all (λ t. is_few (length t.partitions)) topics

abbrev pub are_few : RequestValue → Bool
are_few (heartbeat_request header v) = are_few_names v.subscribed_topic_names && are_few_owned v.topic_partitions
are_few (commit_request header v) = are_few_offsets v.topics
