-- Reading a message from the front of a list of bytes: its value and the bytes after it, or the
-- first fault that is met.
use Rattle.std.specs.Prelude.{◌≡◌, ◌≢◌, ℕ, ℤ, List, length, Option, Some, None, Result, Ok, Err, Bool, true, false, ◌==◌, if◌then◌else◌}
use Rattle.std.specs.Int.{w16, w32, w64}
use Rattle.std.specs.Ordering.{int_eq}
use Rattle.flex_wire.specs.declared.fault.WireFault.{WireFault}
use Rattle.flex_wire.specs.Reading.{Read, ◌>>=◌, signed_at, uuid_at, compact_string_at, compact_nullable_string_at, nullable_string_at, mark_at, tagged_fields_at}
use Rattle.flex_wire.specs.Spelling.{Tagged}
use Rattle.flex_wire.specs.Composed.{nothing_at, pair_at, made_at, array_at, nullable_array_at}
use Rattle.kip_msgs.specs.declared.api.Api.{Api}
use Rattle.kip_msgs.specs.declared.api.Api.TheVariants.{Heartbeat, Commit}
use Rattle.kip_msgs.specs.declared.fault.MsgFault.{MsgFault}
use Rattle.kip_msgs.specs.declared.fault.MsgFault.TheVariants.{UnknownApi, UnknownVersion, LeftOver, NoMemory}
use Rattle.kip_msgs.specs.Api.{version_of, api_with_key}
use Rattle.kip_msgs.specs.Faults.{message_fault}
use Rattle.kip_msgs.specs.Values.{RequestHeaderValue, ResponseHeaderValue, TopicPartitionsValue, HeartbeatRequestValue, AssignmentValue, HeartbeatReplyValue, CommitRequestPartitionValue, CommitRequestTopicValue, CommitRequestValue, CommitReplyPartitionValue, CommitReplyTopicValue, CommitReplyValue, RequestValue, heartbeat_request, commit_request, ReplyValue, heartbeat_reply, commit_reply}

-- ---- messages, and their parts

abbrev pub Reader : Type 0 → Type 0
Reader V = List ℕ → Read V

-- A structure behind its mark.
abbrev pub marked_at : {V : Type 0} → Reader V → Bool → Reader (Option V)
marked_at read false bytes = Ok (None, bytes)
marked_at read true bytes = read bytes >>= λ v. Ok (Some v.0, v.1)

-- A nullable structure.
unfoldable pub nullable_struct_at : {V : Type 0} → Reader V → Reader (Option V)
nullable_struct_at read bytes = mark_at bytes >>= λ there. marked_at read there.0 there.1

-- What stands behind the key and the version.
unfoldable pub request_header_at : Reader RequestHeaderValue
request_header_at =
    made_at (λ x. record { correlation_id = x.0; client_id = x.1.0; tags = x.1.1.0 })
    (pair_at (signed_at w32) (pair_at nullable_string_at (pair_at tagged_fields_at nothing_at)))

unfoldable pub response_header_at : Reader ResponseHeaderValue
response_header_at =
    made_at (λ x. record { correlation_id = x.0; tags = x.1.0 })
    (pair_at (signed_at w32) (pair_at tagged_fields_at nothing_at))

unfoldable pub topic_partitions_at : Reader TopicPartitionsValue
topic_partitions_at =
    made_at (λ x. record { topic_id = x.0; partitions = x.1.0; tags = x.1.1.0 })
    (pair_at uuid_at (pair_at (array_at (signed_at w32)) (pair_at tagged_fields_at nothing_at)))

-- KIP-848, "ConsumerGroupHeartbeatRequest", from RebalanceTimeoutMs on.
abbrev pub heartbeat_rest_at :
    Reader (ℤ × (Option (List (List ℕ)) × (Option (List ℕ) × (Option (List TopicPartitionsValue) × (List Tagged × Unit {0})))))
heartbeat_rest_at =
    pair_at (signed_at w32)
    (pair_at (nullable_array_at compact_string_at)
    (pair_at compact_nullable_string_at
    (pair_at (nullable_array_at topic_partitions_at)
    (pair_at tagged_fields_at nothing_at))))

unfoldable pub heartbeat_request_at : Reader HeartbeatRequestValue
heartbeat_request_at =
    made_at (λ x. record {
      group_id = x.0;
      member_id = x.1.0;
      member_epoch = x.1.1.0;
      instance_id = x.1.1.1.0;
      rack_id = x.1.1.1.1.0;
      rebalance_timeout_ms = x.1.1.1.1.1.0;
      subscribed_topic_names = x.1.1.1.1.1.1.0;
      server_assignor = x.1.1.1.1.1.1.1.0;
      topic_partitions = x.1.1.1.1.1.1.1.1.0;
      tags = x.1.1.1.1.1.1.1.1.1.0;
    })
    (pair_at compact_string_at
    (pair_at compact_string_at
    (pair_at (signed_at w32)
    (pair_at compact_nullable_string_at
    (pair_at compact_nullable_string_at
    heartbeat_rest_at)))))

unfoldable pub assignment_at : Reader AssignmentValue
assignment_at =
    made_at (λ x. record { topic_partitions = x.0; tags = x.1.0 })
    (pair_at (array_at topic_partitions_at) (pair_at tagged_fields_at nothing_at))

-- KIP-848, "ConsumerGroupHeartbeatResponse", from HeartbeatIntervalMs on.
abbrev pub heartbeat_reply_rest_at : Reader (ℤ × (Option AssignmentValue × (List Tagged × Unit {0})))
heartbeat_reply_rest_at =
    pair_at (signed_at w32) (pair_at (nullable_struct_at assignment_at) (pair_at tagged_fields_at nothing_at))

unfoldable pub heartbeat_reply_at : Reader HeartbeatReplyValue
heartbeat_reply_at =
    made_at (λ x. record {
      throttle_time_ms = x.0;
      error_code = x.1.0;
      error_message = x.1.1.0;
      member_id = x.1.1.1.0;
      member_epoch = x.1.1.1.1.0;
      heartbeat_interval_ms = x.1.1.1.1.1.0;
      assignment = x.1.1.1.1.1.1.0;
      tags = x.1.1.1.1.1.1.1.0;
    })
    (pair_at (signed_at w32)
    (pair_at (signed_at w16)
    (pair_at compact_nullable_string_at
    (pair_at compact_nullable_string_at
    (pair_at (signed_at w32)
    heartbeat_reply_rest_at)))))

unfoldable pub commit_request_partition_at : Reader CommitRequestPartitionValue
commit_request_partition_at =
    made_at (λ x. record {
      partition_index = x.0;
      committed_offset = x.1.0;
      committed_leader_epoch = x.1.1.0;
      committed_metadata = x.1.1.1.0;
      tags = x.1.1.1.1.0;
    })
    (pair_at (signed_at w32)
    (pair_at (signed_at w64)
    (pair_at (signed_at w32)
    (pair_at compact_nullable_string_at
    (pair_at tagged_fields_at nothing_at)))))

unfoldable pub commit_request_topic_at : Reader CommitRequestTopicValue
commit_request_topic_at =
    made_at (λ x. record { name = x.0; partitions = x.1.0; tags = x.1.1.0 })
    (pair_at compact_string_at (pair_at (array_at commit_request_partition_at) (pair_at tagged_fields_at nothing_at)))

unfoldable pub commit_request_at : Reader CommitRequestValue
commit_request_at =
    made_at (λ x. record {
      group_id = x.0;
      generation_id_or_member_epoch = x.1.0;
      member_id = x.1.1.0;
      group_instance_id = x.1.1.1.0;
      topics = x.1.1.1.1.0;
      tags = x.1.1.1.1.1.0;
    })
    (pair_at compact_string_at
    (pair_at (signed_at w32)
    (pair_at compact_string_at
    (pair_at compact_nullable_string_at
    (pair_at (array_at commit_request_topic_at)
    (pair_at tagged_fields_at nothing_at))))))

unfoldable pub commit_reply_partition_at : Reader CommitReplyPartitionValue
commit_reply_partition_at =
    made_at (λ x. record { partition_index = x.0; error_code = x.1.0; tags = x.1.1.0 })
    (pair_at (signed_at w32) (pair_at (signed_at w16) (pair_at tagged_fields_at nothing_at)))

unfoldable pub commit_reply_topic_at : Reader CommitReplyTopicValue
commit_reply_topic_at =
    made_at (λ x. record { name = x.0; partitions = x.1.0; tags = x.1.1.0 })
    (pair_at compact_string_at (pair_at (array_at commit_reply_partition_at) (pair_at tagged_fields_at nothing_at)))

unfoldable pub commit_reply_at : Reader CommitReplyValue
commit_reply_at =
    made_at (λ x. record { throttle_time_ms = x.0; topics = x.1.0; tags = x.1.1.0 })
    (pair_at (signed_at w32) (pair_at (array_at commit_reply_topic_at) (pair_at tagged_fields_at nothing_at)))

-- ---- whole bodies

-- What stands behind the key and the version of a heartbeat.
unfoldable pub heartbeat_body_at : Reader (RequestHeaderValue × HeartbeatRequestValue)
heartbeat_body_at = pair_at request_header_at heartbeat_request_at

-- What stands behind the key and the version of a commit.
unfoldable pub commit_body_at : Reader (RequestHeaderValue × CommitRequestValue)
commit_body_at = pair_at request_header_at commit_request_at

-- The body of a reply to a heartbeat.
unfoldable pub heartbeat_reply_body_at : Reader (ResponseHeaderValue × HeartbeatReplyValue)
heartbeat_reply_body_at = pair_at response_header_at heartbeat_reply_at

-- The body of a reply to a commit.
unfoldable pub commit_reply_body_at : Reader (ResponseHeaderValue × CommitReplyValue)
commit_reply_body_at = pair_at response_header_at commit_reply_at

-- What a function returned, seen by view, is what reading gives.
abbrev pub Gives : {X Y : Type 0} → (X → Y) → Result X MsgFault → Result Y MsgFault → Type 0
Gives view (Ok x) read = read ≡ Ok (view x)
Gives view (Err e) read = read ≡ Err e

-- The same, unless memory ran out.
abbrev pub GivesInMemory : {X Y : Type 0} → (X → Y) → Result X MsgFault → Result Y MsgFault → Type 0
GivesInMemory view (Ok x) read = read ≡ Ok (view x)
GivesInMemory view (Err e) read = e ≢ NoMemory → read ≡ Err e

-- A step that may fail, and what comes after it.
abbrev pub and_then : {A B : Type 0} → Result A MsgFault → (A → Result B MsgFault) → Result B MsgFault
and_then (Ok x) more = more x
and_then (Err e) more = Err e

-- A field of a message; its fault is the message's.
abbrev pub field_of : {A : Type 0} → Result A WireFault → Result A MsgFault
field_of (Ok x) = Ok x
field_of (Err fault) = Err (message_fault fault)

-- The version behind the key.
abbrev pub version_at : Option Api → List ℕ → Result (Api × List ℕ) MsgFault
version_at None bytes = Err UnknownApi
version_at (Some api) bytes =
    and_then (field_of (signed_at w16 bytes)) (λ version. if int_eq version.0 (version_of api) then Ok (api, version.1) else Err UnknownVersion)

-- The API that a body's first four bytes name, and what stands behind them.
unfoldable pub api_at : List ℕ → Result (Api × List ℕ) MsgFault
api_at body = and_then (field_of (signed_at w16 body)) (λ key. version_at (api_with_key key.0) key.1)

-- A value behind which these bytes are left.
abbrev pub whole : {A : Type 0} → A → List ℕ → Result A MsgFault
whole x rest = if length rest == 0 then Ok x else Err LeftOver

-- A field that is all of the bytes, and the message that it makes.
abbrev pub whole_at : {V W : Type 0} → (V → W) → Reader V → List ℕ → Result W MsgFault
whole_at make read bytes = and_then (field_of (read bytes)) (λ x. whole (make x.0) x.1)

-- The request behind the API, all of the bytes.
unfoldable pub request_behind_at : Api → List ℕ → Result RequestValue MsgFault
request_behind_at Heartbeat = whole_at (λ p. heartbeat_request p.0 p.1) heartbeat_body_at
request_behind_at Commit = whole_at (λ p. commit_request p.0 p.1) commit_body_at

-- All of the body.
unfoldable pub request_at : List ℕ → Result RequestValue MsgFault
request_at body = and_then (api_at body) (λ api. request_behind_at api.0 api.1)

-- A reply of the API, all of the body.
unfoldable pub reply_at : Api → List ℕ → Result ReplyValue MsgFault
reply_at Heartbeat = whole_at (λ p. heartbeat_reply p.0 p.1) heartbeat_reply_body_at
reply_at Commit = whole_at (λ p. commit_reply p.0 p.1) commit_reply_body_at
