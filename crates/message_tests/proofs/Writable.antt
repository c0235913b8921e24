-- A request that has a spelling can be written.
use Rattle.std.proofs.Common.{List, [], ◌∷◌, Option, Some, None, ℕ, All}
use Rattle.std.specs.Prelude.{IfSome}
use Rattle.std.proofs.lemmas.List.Elements.{All-nil, All-cons, All-head, All-tail}
use Rattle.flex_wire.specs.Spelling.{FitsText, FitsNullableText}
use Rattle.flex_wire.specs.Composed.{FitsArray, FitsNullableArray}
use Rattle.kip_msgs.specs.Values.{TopicPartitionsValue, CommitRequestPartitionValue, CommitRequestTopicValue, RequestValue, heartbeat_request, commit_request}
use Rattle.kip_msgs.specs.Spelling.{FitsTopicPartitions, FitsCommitRequestPartition, FitsCommitRequestTopic, FitsRequest}
use Rattle.kip_msgs.specs.Writable.{IsShort, IsShortIfAny, IsWritableArray, IsWritableTopic, IsWritableCommitRequestPartition, IsWritableCommitRequestTopic, IsWritableRequest}

all_weaker : {X : Type 0} (P Q : X → Type 0) → ((x : X) → P x → Q x) → (xs : List X) → All P xs → All Q xs
all_weaker P Q weaker [] h = All-nil Q
all_weaker P Q weaker (x ∷ xs) h = All-cons Q x xs (weaker x (All-head P x xs h)) (all_weaker P Q weaker xs (All-tail P x xs h))

array_is_writable : {X : Type 0} (P Q : X → Type 0) → ((x : X) → P x → Q x) → (xs : List X) → FitsArray P xs → IsWritableArray Q xs
array_is_writable P Q weaker xs h = record { count = h.0; each = all_weaker P Q weaker xs h.1 }

nullable_array_is_writable : {X : Type 0} (P Q : X → Type 0) → ((x : X) → P x → Q x) → (xs : Option (List X)) → FitsNullableArray P xs → IfSome xs (IsWritableArray Q)
nullable_array_is_writable P Q weaker None h = tt
nullable_array_is_writable P Q weaker (Some xs) h = array_is_writable P Q weaker xs h

is_short : (text : List ℕ) → FitsText text → IsShort text
is_short text h = h.length

is_short_if_any : (text : Option (List ℕ)) → FitsNullableText text → IsShortIfAny text
is_short_if_any None h = tt
is_short_if_any (Some text) h = h.length

topic_is_writable : (topic : TopicPartitionsValue) → FitsTopicPartitions topic → IsWritableTopic topic
topic_is_writable topic h = record { partitions = h.partitions.0; tags = h.tags }

partition_is_writable : (v : CommitRequestPartitionValue) → FitsCommitRequestPartition v → IsWritableCommitRequestPartition v
partition_is_writable v h = record { committed_metadata = is_short_if_any v.committed_metadata h.committed_metadata; tags = h.tags }

commit_topic_is_writable : (v : CommitRequestTopicValue) → FitsCommitRequestTopic v → IsWritableCommitRequestTopic v
commit_topic_is_writable v h = record {
  name = h.name.length;
  partitions = array_is_writable FitsCommitRequestPartition IsWritableCommitRequestPartition partition_is_writable v.partitions h.partitions;
  tags = h.tags;
}

pub request_is_writable : (v : RequestValue) → FitsRequest v → IsWritableRequest v
request_is_writable (heartbeat_request header v) h = (
  record { client_id = is_short_if_any header.client_id h.0.client_id; tags = h.0.tags },
  record {
    group_id = h.1.group_id.length;
    member_id = h.1.member_id.length;
    instance_id = is_short_if_any v.instance_id h.1.instance_id;
    rack_id = is_short_if_any v.rack_id h.1.rack_id;
    subscribed_topic_names = nullable_array_is_writable FitsText IsShort is_short v.subscribed_topic_names h.1.subscribed_topic_names;
    server_assignor = is_short_if_any v.server_assignor h.1.server_assignor;
    topic_partitions = nullable_array_is_writable FitsTopicPartitions IsWritableTopic topic_is_writable v.topic_partitions h.1.topic_partitions;
    tags = h.1.tags;
  },
)
request_is_writable (commit_request header v) h = (
  record { client_id = is_short_if_any header.client_id h.0.client_id; tags = h.0.tags },
  record {
    group_id = h.1.group_id.length;
    member_id = h.1.member_id.length;
    group_instance_id = is_short_if_any v.group_instance_id h.1.group_instance_id;
    topics = array_is_writable FitsCommitRequestTopic IsWritableCommitRequestTopic commit_topic_is_writable v.topics h.1.topics;
    tags = h.1.tags;
  },
)
