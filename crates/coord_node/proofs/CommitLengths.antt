-- The reply to a commit is no longer than its request.
use Rattle.std.proofs.Common.{◌≡◌, ℕ, zero, suc, ◌+◌, ◌≤◌, ℤ, pos, negsuc, true, false, cond, List, [], ◌∷◌, ◌++◌, length, map, Option, Some, None, refl, ap, ◌∙◌, arith, nat_lt, ◌%◌, ◌/◌, length-append}
use Rattle.std.proofs.lemmas.List.{length-map}
use Rattle.std.specs.List.{flat_map}
use Rattle.flex_wire.specs.Spelling.{signed, int16, int32, int64, varint, varint_groups, compact_string, compact_nullable_string, nullable_string, tagged_fields, array_count, Tagged, tagged_field}
use Rattle.flex_wire.specs.Composed.{array}
use Rattle.kip_msgs.specs.Api.{key_of, version_of}
use Rattle.kip_msgs.specs.declared.api.Api.TheVariants.{Commit as CommitApi}
use Rattle.kip_msgs.specs.Values.{RequestHeaderValue, ResponseHeaderValue, CommitRequestPartitionValue, CommitRequestTopicValue, CommitRequestValue, commit_request}
use Rattle.kip_msgs.specs.Spelling.{request_header_fields, request_body, response_header_fields, reply_body, commit_request_partition_fields, commit_request_topic_fields, commit_request_fields, commit_reply_partition_fields, commit_reply_topic_fields, commit_reply_fields}
use Rattle.group_types.specs.declared.code.Code.{Code}
use Rattle.group_types.specs.Text.{Text}
use Rattle.group_types.specs.Commit.{Commitment, answers_by}
use Rattle.group_epochs.specs.Request.{commitment_of, commit_of}
use Rattle.offset_guard.specs.Replies.{reply_partition_value, reply_topic_value, commit_reply_value}
use Rattle.offset_guard.specs.Requests.{topic_of}
use Rattle.coord_node.specs.Replies.{commit_message}
use Rattle.coord_node.proofs.LengthLemmas.{length-int16, length-int32}

length-int64 : (z : ℤ) → length (int64 z) ≡ 8
unfolding signed
length-int64 z = refl

varint_groups-some : (more n : ℕ) → 1 ≤ length (varint_groups more n)
unfolding varint_groups
varint_groups-some zero n = omega arith
varint_groups-some (suc more) n =
    elim (nat_lt n 128) as (λ b. 1 ≤ length (cond b (n ∷ []) ((n % 128 + 128) ∷ varint_groups more (n / 128)))) [ true ↦ omega arith | false ↦ omega arith ]

varint-some : (n : ℕ) → 1 ≤ length (varint n)
unfolding varint
varint-some n = varint_groups-some 4 n

tags-some : (tags : List Tagged) → 1 ≤ length (tagged_fields tags)
unfolding tagged_fields
tags-some tags = omega (arith, length-append (varint (length tags)) (flat_map tagged_field tags), varint-some (length tags))

compact_string-some : (text : List ℕ) → 1 ≤ length (compact_string text)
unfolding compact_string
compact_string-some text = omega (arith, length-append (varint (length text + 1)) text, varint-some (length text + 1))

compact_nullable_string-some : (text : Option (List ℕ)) → 1 ≤ length (compact_nullable_string text)
unfolding compact_nullable_string
compact_nullable_string-some None = varint-some 0
compact_nullable_string-some (Some text) = compact_string-some text

nullable_string-some : (text : Option (List ℕ)) → 2 ≤ length (nullable_string text)
unfolding nullable_string
nullable_string-some None = omega (arith, length-int16 (negsuc 0))
nullable_string-some (Some text) = omega (arith, length-int16 (pos (length text)), length-append (int16 (pos (length text))) text)

no_tags-one : length (tagged_fields []) ≡ 1
unfolding tagged_fields varint varint_groups
no_tags-one = refl

-- ---- one partition

length-reply_partition : (p : ℤ × Code) → length (commit_reply_partition_fields (reply_partition_value p)) ≡ 7
unfolding commit_reply_partition_fields
length-reply_partition p =
    let v = reply_partition_value p in
    omega (
      arith,
      length-int32 v.partition_index,
      length-int16 v.error_code,
      no_tags-one,
      length-append (int32 v.partition_index) (int16 v.error_code ++ (tagged_fields [] ++ [])),
      length-append (int16 v.error_code) (tagged_fields [] ++ []),
      length-append (tagged_fields []) [],
    )

request_partition-some : (v : CommitRequestPartitionValue) → 18 ≤ length (commit_request_partition_fields v)
unfolding commit_request_partition_fields
request_partition-some v =
    let f4 = tagged_fields v.tags ++ [] in
    let f3 = compact_nullable_string v.committed_metadata ++ f4 in
    let f2 = int32 v.committed_leader_epoch ++ f3 in
    let f1 = int64 v.committed_offset ++ f2 in
    omega (
      arith,
      length-int32 v.partition_index,
      length-int64 v.committed_offset,
      length-int32 v.committed_leader_epoch,
      compact_nullable_string-some v.committed_metadata,
      tags-some v.tags,
      length-append (tagged_fields v.tags) [],
      length-append (compact_nullable_string v.committed_metadata) f4,
      length-append (int32 v.committed_leader_epoch) f3,
      length-append (int64 v.committed_offset) f2,
      length-append (int32 v.partition_index) f1,
    )

module _ (code : Text → Commitment → Code) where
  -- ---- the partitions of a topic

  abbrev answers_of : Text → List CommitRequestPartitionValue → List (ℤ × Code)
  answers_of name ps = map (λ x. (x.index, code name x)) (map commitment_of ps)

  shorter_partitions : (name : Text) (ps : List CommitRequestPartitionValue)
      → length (flat_map commit_reply_partition_fields (map reply_partition_value (answers_of name ps))) ≤ length (flat_map commit_request_partition_fields ps)
  shorter_partitions name [] = omega arith
  shorter_partitions name (p ∷ ps) =
      let answer : ℤ × Code = (p.partition_index, code name (commitment_of p)) in
      omega (
        arith,
        shorter_partitions name ps,
        length-reply_partition answer,
        request_partition-some p,
        length-append (commit_reply_partition_fields (reply_partition_value answer)) (flat_map commit_reply_partition_fields (map reply_partition_value (answers_of name ps))),
        length-append (commit_request_partition_fields p) (flat_map commit_request_partition_fields ps),
      )

  pub length-answers : (name : Text) (ps : List CommitRequestPartitionValue) → length (map reply_partition_value (answers_of name ps)) ≡ length ps
  length-answers name ps =
      length-map (answers_of name ps) reply_partition_value ∙ length-map (map commitment_of ps) (λ x. (x.index, code name x)) ∙ length-map ps commitment_of

  shorter_array : (name : Text) (ps : List CommitRequestPartitionValue)
      → length (array commit_reply_partition_fields (map reply_partition_value (answers_of name ps))) ≤ length (array commit_request_partition_fields ps)
  shorter_array name ps =
      let answers = map reply_partition_value (answers_of name ps) in
      omega (
        arith,
        shorter_partitions name ps,
        ap (λ n. length (array_count n)) (length-answers name ps),
        length-append (array_count (length answers)) (flat_map commit_reply_partition_fields answers),
        length-append (array_count (length ps)) (flat_map commit_request_partition_fields ps),
      )

  -- ---- a topic

  abbrev pub answer_of_topic : CommitRequestTopicValue → Text × List (ℤ × Code)
  answer_of_topic t = (t.name, answers_of t.name t.partitions)

  shorter_topic : (t : CommitRequestTopicValue) → length (commit_reply_topic_fields (reply_topic_value (answer_of_topic t))) ≤ length (commit_request_topic_fields t)
  unfolding commit_reply_topic_fields commit_request_topic_fields
  shorter_topic t =
      let answers = array commit_reply_partition_fields (map reply_partition_value (answers_of t.name t.partitions)) in
      let partitions = array commit_request_partition_fields t.partitions in
      omega (
        arith,
        shorter_array t.name t.partitions,
        tags-some t.tags,
        no_tags-one,
        length-append (compact_string t.name) (answers ++ (tagged_fields [] ++ [])),
        length-append answers (tagged_fields [] ++ []),
        length-append (tagged_fields []) [],
        length-append (compact_string t.name) (partitions ++ (tagged_fields t.tags ++ [])),
        length-append partitions (tagged_fields t.tags ++ []),
        length-append (tagged_fields t.tags) [],
      )

  abbrev pub answers_of_topics : List CommitRequestTopicValue → List (Text × List (ℤ × Code))
  answers_of_topics ts = map (λ t. (t.name, map (λ x. (x.index, code t.name x)) t.partitions)) (map topic_of ts)

  shorter_topics : (ts : List CommitRequestTopicValue)
      → length (flat_map commit_reply_topic_fields (map reply_topic_value (answers_of_topics ts))) ≤ length (flat_map commit_request_topic_fields ts)
  shorter_topics [] = omega arith
  shorter_topics (t ∷ ts) =
      omega (
        arith,
        shorter_topics ts,
        shorter_topic t,
        length-append (commit_reply_topic_fields (reply_topic_value (answer_of_topic t))) (flat_map commit_reply_topic_fields (map reply_topic_value (answers_of_topics ts))),
        length-append (commit_request_topic_fields t) (flat_map commit_request_topic_fields ts),
      )

  pub length-topics_answers : (ts : List CommitRequestTopicValue) → length (map reply_topic_value (answers_of_topics ts)) ≡ length ts
  length-topics_answers ts =
      length-map (answers_of_topics ts) reply_topic_value ∙ length-map (map topic_of ts) (λ t. (t.name, map (λ x. (x.index, code t.name x)) t.partitions)) ∙ length-map ts topic_of

  -- ---- the message

  shorter_message : (v : CommitRequestValue) → length (commit_reply_fields (commit_reply_value (answers_by code (commit_of v)))) ≤ length (commit_request_fields v)
  unfolding commit_reply_fields commit_request_fields
  shorter_message v =
      let answers = map reply_topic_value (answers_of_topics v.topics) in
      let reply = array commit_reply_topic_fields answers in
      let topics = array commit_request_topic_fields v.topics in
      let f5 = tagged_fields v.tags ++ [] in
      let f4 = topics ++ f5 in
      let f3 = compact_nullable_string v.group_instance_id ++ f4 in
      let f2 = compact_string v.member_id ++ f3 in
      let f1 = int32 v.generation_id_or_member_epoch ++ f2 in
      omega (
        arith,
        shorter_topics v.topics,
        ap (λ n. length (array_count n)) (length-topics_answers v.topics),
        no_tags-one,
        tags-some v.tags,
        length-int32 (pos 0),
        length-int32 v.generation_id_or_member_epoch,
        compact_string-some v.group_id,
        compact_string-some v.member_id,
        compact_nullable_string-some v.group_instance_id,
        length-append (array_count (length answers)) (flat_map commit_reply_topic_fields answers),
        length-append (array_count (length v.topics)) (flat_map commit_request_topic_fields v.topics),
        length-append (int32 (pos 0)) (reply ++ (tagged_fields [] ++ [])),
        length-append reply (tagged_fields [] ++ []),
        length-append (tagged_fields []) [],
        length-append (tagged_fields v.tags) [],
        length-append topics f5,
        length-append (compact_nullable_string v.group_instance_id) f4,
        length-append (compact_string v.member_id) f3,
        length-append (int32 v.generation_id_or_member_epoch) f2,
        length-append (compact_string v.group_id) f1,
      )

  length-response_header_alone : (correlation : ℤ) → length (response_header_fields (record { correlation_id = correlation; tags = [] })) ≡ 5
  unfolding response_header_fields
  length-response_header_alone correlation =
      omega (arith, length-int32 correlation, no_tags-one, length-append (int32 correlation) (tagged_fields [] ++ []), length-append (tagged_fields []) [])

  -- the body of the reply, and the size in front of it
  pub length-commit_body : (correlation : ℤ) (v : CommitRequestValue)
      → length (reply_body (commit_message correlation (commit_reply_value (answers_by code (commit_of v))))) ≤ length (commit_request_fields v) + 5
  unfolding reply_body
  length-commit_body correlation v =
      let header : ResponseHeaderValue = record { correlation_id = correlation; tags = [] } in
      omega (
        arith,
        shorter_message v,
        length-response_header_alone correlation,
        length-append (response_header_fields header) (commit_reply_fields (commit_reply_value (answers_by code (commit_of v)))),
      )

-- the header of a request takes more than that of a reply and a size
pub length-request_header : (header : RequestHeaderValue) → 11 ≤ length (request_header_fields CommitApi header)
unfolding request_header_fields
length-request_header header =
    let f4 = tagged_fields header.tags ++ [] in
    let f3 = nullable_string header.client_id ++ f4 in
    let f2 = int32 header.correlation_id ++ f3 in
    let f1 = int16 (version_of CommitApi) ++ f2 in
    omega (
      arith,
      length-int16 (key_of CommitApi),
      length-int16 (version_of CommitApi),
      length-int32 header.correlation_id,
      nullable_string-some header.client_id,
      tags-some header.tags,
      length-append (tagged_fields header.tags) [],
      length-append (nullable_string header.client_id) f4,
      length-append (int32 header.correlation_id) f3,
      length-append (int16 (version_of CommitApi)) f2,
      length-append (int16 (key_of CommitApi)) f1,
    )

-- so much of a request's body is the commit
pub length-commit_fields : (header : RequestHeaderValue) (v : CommitRequestValue) → length (commit_request_fields v) + 11 ≤ length (request_body (commit_request header v))
unfolding request_body
length-commit_fields header v =
    omega (arith, length-request_header header, length-append (request_header_fields CommitApi header) (commit_request_fields v))
