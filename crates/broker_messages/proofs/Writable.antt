-- A heartbeat that has an encoding can be written.
use Rattle.std.proofs.Common.{ℕ, List, [], ◌∷◌, Option, Some, None, All}
use Rattle.std.specs.Prelude.{IfSome}
use Rattle.std.proofs.lemmas.List.Elements.{All-nil, All-cons, All-head, All-tail}
use Rattle.flex_wire.specs.Spelling.{FitsText, FitsNullableText}
use Rattle.flex_wire.specs.Composed.{FitsNullableArray}
use Rattle.kip_msgs.specs.Values.{RequestHeaderValue, HeartbeatRequestValue}
use Rattle.kip_msgs.specs.Spelling.{FitsRequestHeader, FitsHeartbeatRequest, FitsTopicPartitions}
use Rattle.kip_msgs.specs.Writable.{IsShort, IsShortIfAny, IsWritableArray, IsWritableHeader, IsWritableTopic, IsWritableHeartbeatRequest}

all_weaker : {X : Type 0} (P Q : X → Type 0) → ((x : X) → P x → Q x) → (xs : List X) → All P xs → All Q xs
all_weaker P Q weaker [] h = All-nil Q
all_weaker P Q weaker (x ∷ xs) h = All-cons Q x xs (weaker x (All-head P x xs h)) (all_weaker P Q weaker xs (All-tail P x xs h))

array_is_writable : {X : Type 0} (P Q : X → Type 0) → ((x : X) → P x → Q x) → (xs : Option (List X)) → FitsNullableArray P xs → IfSome xs (IsWritableArray Q)
array_is_writable P Q weaker None h = tt
array_is_writable P Q weaker (Some xs) h = record { count = h.0; each = all_weaker P Q weaker xs h.1 }

is_short_if_any : (text : Option (List ℕ)) → FitsNullableText text → IsShortIfAny text
is_short_if_any None h = tt
is_short_if_any (Some text) h = h.length

pub header_is_writable : (header : RequestHeaderValue) → FitsRequestHeader header → IsWritableHeader header
header_is_writable header h = record { client_id = is_short_if_any header.client_id h.client_id; tags = h.tags }

pub heartbeat_is_writable : (v : HeartbeatRequestValue) → FitsHeartbeatRequest v → IsWritableHeartbeatRequest v
heartbeat_is_writable v h = record {
  group_id = h.group_id.length;
  member_id = h.member_id.length;
  instance_id = is_short_if_any v.instance_id h.instance_id;
  rack_id = is_short_if_any v.rack_id h.rack_id;
  subscribed_topic_names = array_is_writable FitsText IsShort (λ text fits. fits.length) v.subscribed_topic_names h.subscribed_topic_names;
  server_assignor = is_short_if_any v.server_assignor h.server_assignor;
  topic_partitions = array_is_writable FitsTopicPartitions IsWritableTopic (λ topic fits. record { partitions = fits.partitions.0; tags = fits.tags }) v.topic_partitions h.topic_partitions;
  tags = h.tags;
}
