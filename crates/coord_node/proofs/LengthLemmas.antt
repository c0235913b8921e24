-- How long a reply is spelled.
use Rattle.std.proofs.Common.{◌≡◌, ℕ, zero, suc, ◌+◌, ◌*◌, ◌≤◌, ℤ, pos, true, false, cond, List, [], ◌∷◌, ◌++◌, length, Option, option_map, Some, None, All, IfSome, refl, ap, arith, nat_lt, ◌%◌, ◌/◌, length-append}
use Rattle.std.specs.List.{flat_map}
use Rattle.std.specs.Option.{option_map_or}
use Rattle.group_types.specs.declared.code.Code.{Code}
use Rattle.group_types.specs.declared.code.Code.TheVariants.{NoError, UnknownTopicOrPartition, OffsetMetadataTooLarge, CoordinatorNotAvailable, UnknownMemberId, InvalidRequest, GroupIdNotFound, GroupMaxSizeReached, FencedMemberEpoch, UnreleasedInstanceId, UnsupportedAssignor, StaleMemberEpoch}
use Rattle.group_types.specs.Code.{code_text}
use Rattle.group_types.specs.Sets.{in_order, size}
use Rattle.group_types.specs.Partition.{Partitions}
use Rattle.group_types.specs.HeartbeatStep.{Reply}
use Rattle.flex_wire.specs.Spelling.{signed, int16, int32, varint, varint_groups, FitsUuid, compact_string, compact_nullable_string, tagged_fields, array_count, mark}
use Rattle.flex_wire.specs.Composed.{array}
use Rattle.kip_msgs.specs.Values.{TopicPartitionsValue, ResponseHeaderValue}
use Rattle.kip_msgs.specs.Spelling.{FitsAssignment, nullable_struct, topic_partitions_fields, assignment_fields, heartbeat_reply_fields, response_header_fields, reply_body}
use Rattle.kip_msgs.proofs.ListingLemmas.{HaveNoTags, indexes_in}
use Rattle.group_core.specs.Listing.{listed}
use Rattle.group_core.specs.Outcome.{reply_room}
use Rattle.group_core.proofs.ListingLemmas.{HaveNoTags-listed, indexes_in-listed, length-listed}
use Rattle.coord_node.specs.Laws.{RepliesFit}
use Rattle.coord_node.specs.Replies.{assignment_value, heartbeat_reply_value, reply_value}

pub length-int32 : (z : ℤ) → length (int32 z) ≡ 4
unfolding signed
length-int32 z = refl

pub length-int16 : (z : ℤ) → length (int16 z) ≡ 2
unfolding signed
length-int16 z = refl

length-varint_groups : (more n : ℕ) → length (varint_groups more n) ≤ more + 1
unfolding varint_groups
length-varint_groups zero n = omega arith
length-varint_groups (suc more) n =
    elim (nat_lt n 128) as (λ b. length (cond b (n ∷ []) ((n % 128 + 128) ∷ varint_groups more (n / 128))) ≤ suc more + 1) [
      | true ↦ omega arith
      | false ↦ omega (arith, length-varint_groups more (n / 128))
    ]

length-varint : (n : ℕ) → length (varint n) ≤ 5
unfolding varint
length-varint n = length-varint_groups 4 n

length-compact_string : (text : List ℕ) → length (compact_string text) ≤ 5 + length text
unfolding compact_string
length-compact_string text =
    omega (arith, length-append (varint (length text + 1)) text, length-varint (length text + 1))

length-compact_nullable_string : (text : Option (List ℕ)) → length (compact_nullable_string text) ≤ 5 + option_map_or length text 0
unfolding compact_nullable_string
length-compact_nullable_string None = omega (arith, length-varint 0)
length-compact_nullable_string (Some text) = length-compact_string text

-- no tagged fields take a byte at most
length-no_tags : length (tagged_fields []) ≤ 5
unfolding tagged_fields
length-no_tags = omega (arith, length-append (varint 0) [], length-varint 0)

length-array_count : (count : ℕ) → length (array_count count) ≤ 5
unfolding array_count
length-array_count count = length-varint (count + 1)

length-indexes : (indexes : List ℤ) → length (flat_map int32 indexes) ≡ 4 * length indexes
length-indexes [] = refl
length-indexes (i ∷ is) =
    omega (arith, length-append (int32 i) (flat_map int32 is), length-int32 i, length-indexes is)

-- each entry's topic id has its sixteen bytes
abbrev pub HaveIds : List TopicPartitionsValue → Type 0
HaveIds ts = All (λ t. FitsUuid t.topic_id) ts

length-topic : (t : TopicPartitionsValue) → length t.topic_id ≡ 16 → t.tags ≡ [] → length (topic_partitions_fields t) ≤ 26 + 4 * length t.partitions
unfolding topic_partitions_fields
length-topic t id none =
    let tags : length (tagged_fields t.tags) ≤ 5 = rw none length-no_tags in
    let count = length-array_count (length t.partitions) in
    let indexes = length-indexes t.partitions in
    let whole = length-append t.topic_id (array int32 t.partitions ++ (tagged_fields t.tags ++ [])) in
    let rest = length-append (array int32 t.partitions) (tagged_fields t.tags ++ []) in
    let counted = length-append (array_count (length t.partitions)) (flat_map int32 t.partitions) in
    let last = length-append (tagged_fields t.tags) [] in
    omega arith

length-topics : (ts : List TopicPartitionsValue) → HaveIds ts → HaveNoTags ts → length (flat_map topic_partitions_fields ts) ≤ 26 * length ts + 4 * indexes_in ts
length-topics [] ids none = omega arith
length-topics (t ∷ ts) ids none =
    let front = length-topic t (ids 0 t (omega arith)) none.0 in
    let back = length-topics ts (λ k d h. ids (suc k) d (omega arith)) none.1 in
    omega (arith, length-append (topic_partitions_fields t) (flat_map topic_partitions_fields ts))

length-assignment : (set : Partitions) → HaveIds (listed (in_order set)) → length (assignment_fields (assignment_value set)) ≤ 10 + 30 * size set
unfolding assignment_fields
length-assignment set ids =
    let ts = listed (in_order set) in
    let count = length-array_count (length ts) in
    let topics = length-topics ts ids (HaveNoTags-listed (in_order set)) in
    let counted = length-append (array_count (length ts)) (flat_map topic_partitions_fields ts) in
    let whole = length-append (array topic_partitions_fields ts) (tagged_fields [] ++ []) in
    let last = length-append (tagged_fields []) [] in
    omega (arith, length-no_tags, indexes_in-listed (in_order set), length-listed (in_order set))

-- the topic ids of an assignment, where there is one
abbrev pub HaveAssignedIds : Option Partitions → Type 0
HaveAssignedIds assignment = IfSome assignment (λ set. HaveIds (listed (in_order set)))

length-nullable_assignment : (a : Option Partitions) → HaveAssignedIds a → length (nullable_struct assignment_fields (option_map assignment_value a)) ≤ 11 + 30 * option_map_or size a 0
unfolding nullable_struct
length-nullable_assignment None ids = omega arith
length-nullable_assignment (Some set) ids =
    omega (arith, length-append (mark true) (assignment_fields (assignment_value set)), length-assignment set ids)

-- the longest text is that of COORDINATOR_NOT_AVAILABLE
pub length-code_text : (code : Code) → option_map_or length (code_text code) 0 ≤ 25
length-code_text NoError = omega arith
length-code_text UnknownTopicOrPartition = omega arith
length-code_text OffsetMetadataTooLarge = omega arith
length-code_text CoordinatorNotAvailable = omega arith
length-code_text UnknownMemberId = omega arith
length-code_text InvalidRequest = omega arith
length-code_text GroupIdNotFound = omega arith
length-code_text GroupMaxSizeReached = omega arith
length-code_text FencedMemberEpoch = omega arith
length-code_text UnreleasedInstanceId = omega arith
length-code_text UnsupportedAssignor = omega arith
length-code_text StaleMemberEpoch = omega arith

length-heartbeat_reply : (r : Reply) → HaveAssignedIds r.assignment
    → length (heartbeat_reply_fields (heartbeat_reply_value r)) ≤ 70 + option_map_or length r.member 0 + 30 * option_map_or size r.assignment 0
unfolding heartbeat_reply_fields
length-heartbeat_reply r ids =
    let v = heartbeat_reply_value r in
    let message = length-compact_nullable_string v.error_message in
    let member = length-compact_nullable_string v.member_id in
    let assignment = length-nullable_assignment r.assignment ids in
    let f8 = length-append (tagged_fields v.tags) [] in
    let f7 = length-append (nullable_struct assignment_fields v.assignment) (tagged_fields v.tags ++ []) in
    let f6 = length-append (int32 v.heartbeat_interval_ms) (nullable_struct assignment_fields v.assignment ++ (tagged_fields v.tags ++ [])) in
    let f5 = length-append (int32 v.member_epoch) (int32 v.heartbeat_interval_ms ++ (nullable_struct assignment_fields v.assignment ++ (tagged_fields v.tags ++ []))) in
    let f4 = length-append (compact_nullable_string v.member_id) (int32 v.member_epoch ++ (int32 v.heartbeat_interval_ms ++ (nullable_struct assignment_fields v.assignment ++ (tagged_fields v.tags ++ [])))) in
    let f3 = length-append (compact_nullable_string v.error_message) (compact_nullable_string v.member_id ++ (int32 v.member_epoch ++ (int32 v.heartbeat_interval_ms ++ (nullable_struct assignment_fields v.assignment ++ (tagged_fields v.tags ++ []))))) in
    let f2 = length-append (int16 v.error_code) (compact_nullable_string v.error_message ++ (compact_nullable_string v.member_id ++ (int32 v.member_epoch ++ (int32 v.heartbeat_interval_ms ++ (nullable_struct assignment_fields v.assignment ++ (tagged_fields v.tags ++ [])))))) in
    let f1 = length-append (int32 v.throttle_time_ms) (int16 v.error_code ++ (compact_nullable_string v.error_message ++ (compact_nullable_string v.member_id ++ (int32 v.member_epoch ++ (int32 v.heartbeat_interval_ms ++ (nullable_struct assignment_fields v.assignment ++ (tagged_fields v.tags ++ []))))))) in
    omega (arith, length-no_tags, length-code_text r.code, length-int32 v.throttle_time_ms, length-int16 v.error_code, length-int32 v.member_epoch, length-int32 v.heartbeat_interval_ms)

length-response_header : (correlation : ℤ) → length (response_header_fields (record { correlation_id = correlation; tags = [] })) ≤ 9
unfolding response_header_fields
length-response_header correlation =
    let last = length-append (tagged_fields []) [] in
    omega (arith, length-no_tags, length-append (int32 correlation) (tagged_fields [] ++ []), length-int32 correlation)

-- a reply's body and the size in front of it fit the bytes that are reserved
pub length-reply_body : (correlation : ℤ) (r : Reply) → HaveAssignedIds r.assignment → length (reply_body (reply_value correlation r)) + 4 ≤ reply_room r
unfolding reply_body
length-reply_body correlation r ids =
    let header : ResponseHeaderValue = record { correlation_id = correlation; tags = [] } in
    omega (arith, length-append (response_header_fields header) (heartbeat_reply_fields (heartbeat_reply_value r)), length-response_header correlation, length-heartbeat_reply r ids)

-- ---- the frame of a reply

-- whatever is spelled has ids of sixteen bytes
spelled_ids : (a : Option Partitions) → IfSome (option_map assignment_value a) FitsAssignment → HaveAssignedIds a
spelled_ids None fits = tt
spelled_ids (Some set) fits = λ k d low. (fits.topic_partitions.1 k d low).topic_id

pub replies_fit : RepliesFit
replies_fit correlation r frame is =
    let size = pos (length is.body) in
    let ids = spelled_ids r.assignment is.spells.fits.1.assignment in
    omega (arith, ap length is.framed.bytes, length-append (int32 size) is.body, length-int32 size, ap length is.spells.bytes, length-reply_body correlation r ids)
