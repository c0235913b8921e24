-- Each message is a field: what is read is spelled so and fits, and what is spelled so is read.
use Rattle.std.proofs.Common.{◌≡◌, ℕ, Bool, true, false, List, [], ◌∷◌, ◌++◌, Option, Some, None, Ok, refl, sym, ap, subst, ◌∙◌, append_assoc}
use Rattle.std.specs.Prelude.{FitsSigned, IfSome}
use Rattle.std.specs.Int.{w16, w32, w64}
use Rattle.flex_wire.specs.Spelling.{Tagged, int16, int32, int64, nullable_string, tagged_fields, FitsTaggedFields, mark}
use Rattle.flex_wire.specs.Reading.{Read, signed_at, mark_at, tagged_fields_at}
use Rattle.flex_wire.specs.Composed.{nothing_at, pair_at}
use Rattle.flex_wire.specs.Laws.{AreBytes, IsField}
use Rattle.flex_wire.proofs.Fields.{bind_ok, ok_is, AreBytes-rest}
use Rattle.flex_wire.proofs.IntLaws.{signed_is_field, wide16, wide32, wide64, uuid_is_field}
use Rattle.flex_wire.proofs.MarkLaws.{mark_is_field}
use Rattle.flex_wire.proofs.TextLaws.{compact_string_is_field, compact_nullable_string_is_field, nullable_string_is_field}
use Rattle.flex_wire.proofs.TagLaws.{tagged_fields_is_field}
use Rattle.flex_wire.proofs.ComposedLaws.{nothing_is_field, pair_is_field, made_is_field, refitted_is_field, array_is_field, nullable_array_is_field}
use Rattle.kip_msgs.specs.Values.{RequestHeaderValue}
use Rattle.kip_msgs.specs.Spelling.{fields, nullable_struct, FitsRequestHeader, response_header_fields, FitsResponseHeader, topic_partitions_fields, FitsTopicPartitions, heartbeat_request_fields, FitsHeartbeatRequest, assignment_fields, FitsAssignment, heartbeat_reply_fields, FitsHeartbeatReply, commit_request_partition_fields, FitsCommitRequestPartition, commit_request_topic_fields, FitsCommitRequestTopic, commit_request_fields, FitsCommitRequest, commit_reply_partition_fields, FitsCommitReplyPartition, commit_reply_topic_fields, FitsCommitReplyTopic, commit_reply_fields, FitsCommitReply}
use Rattle.kip_msgs.specs.Reading.{marked_at, nullable_struct_at, request_header_at, response_header_at, topic_partitions_at, heartbeat_request_at, assignment_at, heartbeat_reply_at, commit_request_partition_at, commit_request_topic_at, commit_request_at, commit_reply_partition_at, commit_reply_topic_at, commit_reply_at, heartbeat_body_at, commit_body_at, heartbeat_reply_body_at, commit_reply_body_at}

pub int16_is_field : IsField (FitsSigned w16) int16 (signed_at w16)
int16_is_field = signed_is_field w16 wide16

pub int32_is_field : IsField (FitsSigned w32) int32 (signed_at w32)
int32_is_field = signed_is_field w32 wide32

int64_is_field : IsField (FitsSigned w64) int64 (signed_at w64)
int64_is_field = signed_is_field w64 wide64

-- a field, and those behind it
infixr 9 ◌▸◌
abbrev ◌▸◌ : {V W : Type 0} {F : V → Type 0} {G : W → Type 0} {s : V → List ℕ} {t : W → List ℕ} {r : List ℕ → Read V} {q : List ℕ → Read W} → IsField F s r → IsField G t q → IsField (λ (p : V × W). F p.0 × G p.1) (λ p. s p.0 ++ t p.1) (pair_at r q)
first ▸ others = pair_is_field first others

-- the tagged fields that each structure ends in
tags_are_field : IsField (λ (p : List Tagged × Unit {0}). FitsTaggedFields p.0 × Unit {0}) (λ p. tagged_fields p.0 ++ []) (pair_at tagged_fields_at nothing_at)
tags_are_field = pair_is_field tagged_fields_is_field nothing_is_field

-- what stands behind the key and the version of a request's header
abbrev pub header_rest : RequestHeaderValue → List ℕ
header_rest header = fields (int32 header.correlation_id ∷ nullable_string header.client_id ∷ tagged_fields header.tags ∷ [])

pub request_header_is_field : IsField FitsRequestHeader header_rest request_header_at
unfolding request_header_at
request_header_is_field =
    refitted_is_field
    (λ h f. record { correlation_id = f.0; client_id = f.1.0; tags = f.1.1.0 })
    (λ h f. (f.correlation_id, (f.client_id, (f.tags, tt))))
    (made_is_field _ (λ h. (h.correlation_id, (h.client_id, (h.tags, tt)))) (λ _. refl) (λ _. refl)
    (int32_is_field ▸ nullable_string_is_field ▸ tags_are_field))

pub response_header_is_field : IsField FitsResponseHeader response_header_fields response_header_at
unfolding response_header_fields response_header_at
response_header_is_field =
    refitted_is_field
    (λ h f. record { correlation_id = f.0; tags = f.1.0 })
    (λ h f. (f.correlation_id, (f.tags, tt)))
    (made_is_field _ (λ h. (h.correlation_id, (h.tags, tt))) (λ _. refl) (λ _. refl)
    (int32_is_field ▸ tags_are_field))

pub topic_partitions_is_field : IsField FitsTopicPartitions topic_partitions_fields topic_partitions_at
unfolding topic_partitions_fields topic_partitions_at
topic_partitions_is_field =
    refitted_is_field
    (λ t f. record { topic_id = f.0; partitions = f.1.0; tags = f.1.1.0 })
    (λ t f. (f.topic_id, (f.partitions, (f.tags, tt))))
    (made_is_field _ (λ t. (t.topic_id, (t.partitions, (t.tags, tt)))) (λ _. refl) (λ _. refl)
    (uuid_is_field ▸ array_is_field int32_is_field ▸ tags_are_field))

pub heartbeat_request_is_field : IsField FitsHeartbeatRequest heartbeat_request_fields heartbeat_request_at
unfolding heartbeat_request_fields heartbeat_request_at
heartbeat_request_is_field =
    refitted_is_field
    (λ v (group_id, (member_id, (member_epoch, (instance_id, (rack_id, (rebalance_timeout_ms, (subscribed_topic_names, (server_assignor, (topic_partitions, (tags, _)))))))))). record {
      group_id = group_id;
      member_id = member_id;
      member_epoch = member_epoch;
      instance_id = instance_id;
      rack_id = rack_id;
      rebalance_timeout_ms = rebalance_timeout_ms;
      subscribed_topic_names = subscribed_topic_names;
      server_assignor = server_assignor;
      topic_partitions = topic_partitions;
      tags = tags;
    })
    (λ v f. (f.group_id, (f.member_id, (f.member_epoch, (f.instance_id, (f.rack_id, (f.rebalance_timeout_ms, (f.subscribed_topic_names, (f.server_assignor, (f.topic_partitions, (f.tags, tt)))))))))))
    (made_is_field _ (λ v. (v.group_id, (v.member_id, (v.member_epoch, (v.instance_id, (v.rack_id, (v.rebalance_timeout_ms, (v.subscribed_topic_names, (v.server_assignor, (v.topic_partitions, (v.tags, tt))))))))))) (λ _. refl) (λ _. refl)
    (compact_string_is_field ▸ compact_string_is_field ▸ int32_is_field ▸ compact_nullable_string_is_field
    ▸ compact_nullable_string_is_field ▸ int32_is_field ▸ nullable_array_is_field compact_string_is_field
    ▸ compact_nullable_string_is_field ▸ nullable_array_is_field topic_partitions_is_field ▸ tags_are_field))

-- a nullable structure
marked_taken : {V : Type 0} {F : V → Type 0} {s : V → List ℕ} {r : List ℕ → Read V} → IsField F s r → (there : Bool) (bytes : List ℕ) (p : Option V × List ℕ) → AreBytes bytes → marked_at r there bytes ≡ Ok p → IfSome p.0 F × (mark there ++ bytes ≡ nullable_struct s p.0 ++ p.1)
unfolding nullable_struct
marked_taken {V} {F} {s} field false bytes p are e = subst (λ (q : Option V × List ℕ). IfSome q.0 F × (mark false ++ bytes ≡ nullable_struct s q.0 ++ q.1)) (ok_is (None, bytes) p e) (tt, refl)
marked_taken {V} {F} {s} {r} field true bytes p are e =
    let a = bind_ok (r bytes) (λ v. Ok (Some v.0, v.1)) p e in
    let x = field.taken bytes a.0.0 a.0.1 are a.1 in
    subst (λ (q : Option V × List ℕ). IfSome q.0 F × (mark true ++ bytes ≡ nullable_struct s q.0 ++ q.1)) (ok_is (Some a.0.0, a.0.1) p a.2) (x.0, ap (λ (l : List ℕ). mark true ++ l) x.1 ∙ sym (append_assoc (mark true) (s a.0.0) a.0.1))

nullable_struct_again : {V : Type 0} {F : V → Type 0} {s : V → List ℕ} {r : List ℕ → Read V} → IsField F s r → (v : Option V) (rest : List ℕ) → IfSome v F → nullable_struct_at r (nullable_struct s v ++ rest) ≡ Ok (v, rest)
unfolding nullable_struct nullable_struct_at
nullable_struct_again {r = r} field None rest fits = rw (mark_is_field.again false rest tt) refl
nullable_struct_again {s = s} {r} field (Some v) rest fits =
    ap (nullable_struct_at r) (append_assoc (mark true) (s v) rest) ∙ rw (mark_is_field.again true (s v ++ rest) tt, field.again v rest fits) refl

pub nullable_struct_is_field : {V : Type 0} {F : V → Type 0} {s : V → List ℕ} {r : List ℕ → Read V} → IsField F s r → IsField (λ v. IfSome v F) (nullable_struct s) (nullable_struct_at r)
unfolding nullable_struct_at
nullable_struct_is_field {s = s} {r} field = record {
  taken = λ bytes value rest are e.
      let a = bind_ok (mark_at bytes) (λ there. marked_at r there.0 there.1) (value, rest) e in
      let x = mark_is_field.taken bytes a.0.0 a.0.1 are a.1 in
      let y = marked_taken field a.0.0 a.0.1 (value, rest) (AreBytes-rest (mark a.0.0) a.0.1 (subst AreBytes x.1 are)) a.2 in
      (y.0, x.1 ∙ y.1);
  again = λ value rest fits. nullable_struct_again field value rest fits;
}

pub assignment_is_field : IsField FitsAssignment assignment_fields assignment_at
unfolding assignment_fields assignment_at
assignment_is_field =
    refitted_is_field
    (λ a f. record { topic_partitions = f.0; tags = f.1.0 })
    (λ a f. (f.topic_partitions, (f.tags, tt)))
    (made_is_field _ (λ a. (a.topic_partitions, (a.tags, tt))) (λ _. refl) (λ _. refl)
    (array_is_field topic_partitions_is_field ▸ tags_are_field))

pub heartbeat_reply_is_field : IsField FitsHeartbeatReply heartbeat_reply_fields heartbeat_reply_at
unfolding heartbeat_reply_fields heartbeat_reply_at
heartbeat_reply_is_field =
    refitted_is_field
    (λ v (throttle_time_ms, (error_code, (error_message, (member_id, (member_epoch, (heartbeat_interval_ms, (assignment, (tags, _)))))))). record {
      throttle_time_ms = throttle_time_ms;
      error_code = error_code;
      error_message = error_message;
      member_id = member_id;
      member_epoch = member_epoch;
      heartbeat_interval_ms = heartbeat_interval_ms;
      assignment = assignment;
      tags = tags;
    })
    (λ v f. (f.throttle_time_ms, (f.error_code, (f.error_message, (f.member_id, (f.member_epoch, (f.heartbeat_interval_ms, (f.assignment, (f.tags, tt)))))))))
    (made_is_field _ (λ v. (v.throttle_time_ms, (v.error_code, (v.error_message, (v.member_id, (v.member_epoch, (v.heartbeat_interval_ms, (v.assignment, (v.tags, tt))))))))) (λ _. refl) (λ _. refl)
    (int32_is_field ▸ int16_is_field ▸ compact_nullable_string_is_field ▸ compact_nullable_string_is_field
    ▸ int32_is_field ▸ int32_is_field ▸ nullable_struct_is_field assignment_is_field ▸ tags_are_field))

pub commit_request_partition_is_field : IsField FitsCommitRequestPartition commit_request_partition_fields commit_request_partition_at
unfolding commit_request_partition_fields commit_request_partition_at
commit_request_partition_is_field =
    refitted_is_field
    (λ v (partition_index, (committed_offset, (committed_leader_epoch, (committed_metadata, (tags, _))))). record {
      partition_index = partition_index;
      committed_offset = committed_offset;
      committed_leader_epoch = committed_leader_epoch;
      committed_metadata = committed_metadata;
      tags = tags;
    })
    (λ v f. (f.partition_index, (f.committed_offset, (f.committed_leader_epoch, (f.committed_metadata, (f.tags, tt))))))
    (made_is_field _ (λ v. (v.partition_index, (v.committed_offset, (v.committed_leader_epoch, (v.committed_metadata, (v.tags, tt)))))) (λ _. refl) (λ _. refl)
    (int32_is_field ▸ int64_is_field ▸ int32_is_field ▸ compact_nullable_string_is_field ▸ tags_are_field))

pub commit_request_topic_is_field : IsField FitsCommitRequestTopic commit_request_topic_fields commit_request_topic_at
unfolding commit_request_topic_fields commit_request_topic_at
commit_request_topic_is_field =
    refitted_is_field
    (λ v f. record { name = f.0; partitions = f.1.0; tags = f.1.1.0 })
    (λ v f. (f.name, (f.partitions, (f.tags, tt))))
    (made_is_field _ (λ v. (v.name, (v.partitions, (v.tags, tt)))) (λ _. refl) (λ _. refl)
    (compact_string_is_field ▸ array_is_field commit_request_partition_is_field ▸ tags_are_field))

pub commit_request_is_field : IsField FitsCommitRequest commit_request_fields commit_request_at
unfolding commit_request_fields commit_request_at
commit_request_is_field =
    refitted_is_field
    (λ v (group_id, (generation_id_or_member_epoch, (member_id, (group_instance_id, (topics, (tags, _)))))). record {
      group_id = group_id;
      generation_id_or_member_epoch = generation_id_or_member_epoch;
      member_id = member_id;
      group_instance_id = group_instance_id;
      topics = topics;
      tags = tags;
    })
    (λ v f. (f.group_id, (f.generation_id_or_member_epoch, (f.member_id, (f.group_instance_id, (f.topics, (f.tags, tt)))))))
    (made_is_field _ (λ v. (v.group_id, (v.generation_id_or_member_epoch, (v.member_id, (v.group_instance_id, (v.topics, (v.tags, tt))))))) (λ _. refl) (λ _. refl)
    (compact_string_is_field ▸ int32_is_field ▸ compact_string_is_field ▸ compact_nullable_string_is_field
    ▸ array_is_field commit_request_topic_is_field ▸ tags_are_field))

pub commit_reply_partition_is_field : IsField FitsCommitReplyPartition commit_reply_partition_fields commit_reply_partition_at
unfolding commit_reply_partition_fields commit_reply_partition_at
commit_reply_partition_is_field =
    refitted_is_field
    (λ v f. record { partition_index = f.0; error_code = f.1.0; tags = f.1.1.0 })
    (λ v f. (f.partition_index, (f.error_code, (f.tags, tt))))
    (made_is_field _ (λ v. (v.partition_index, (v.error_code, (v.tags, tt)))) (λ _. refl) (λ _. refl)
    (int32_is_field ▸ int16_is_field ▸ tags_are_field))

pub commit_reply_topic_is_field : IsField FitsCommitReplyTopic commit_reply_topic_fields commit_reply_topic_at
unfolding commit_reply_topic_fields commit_reply_topic_at
commit_reply_topic_is_field =
    refitted_is_field
    (λ v f. record { name = f.0; partitions = f.1.0; tags = f.1.1.0 })
    (λ v f. (f.name, (f.partitions, (f.tags, tt))))
    (made_is_field _ (λ v. (v.name, (v.partitions, (v.tags, tt)))) (λ _. refl) (λ _. refl)
    (compact_string_is_field ▸ array_is_field commit_reply_partition_is_field ▸ tags_are_field))

pub commit_reply_is_field : IsField FitsCommitReply commit_reply_fields commit_reply_at
unfolding commit_reply_fields commit_reply_at
commit_reply_is_field =
    refitted_is_field
    (λ v f. record { throttle_time_ms = f.0; topics = f.1.0; tags = f.1.1.0 })
    (λ v f. (f.throttle_time_ms, (f.topics, (f.tags, tt))))
    (made_is_field _ (λ v. (v.throttle_time_ms, (v.topics, (v.tags, tt)))) (λ _. refl) (λ _. refl)
    (int32_is_field ▸ array_is_field commit_reply_topic_is_field ▸ tags_are_field))

-- a heartbeat's body behind the key and the version
pub heartbeat_body_is_field : IsField (λ p. FitsRequestHeader p.0 × FitsHeartbeatRequest p.1) (λ p. header_rest p.0 ++ heartbeat_request_fields p.1) heartbeat_body_at
unfolding heartbeat_body_at
heartbeat_body_is_field = pair_is_field request_header_is_field heartbeat_request_is_field

-- a commit's body behind the key and the version
pub commit_body_is_field : IsField (λ p. FitsRequestHeader p.0 × FitsCommitRequest p.1) (λ p. header_rest p.0 ++ commit_request_fields p.1) commit_body_at
unfolding commit_body_at
commit_body_is_field = pair_is_field request_header_is_field commit_request_is_field

-- the body of a reply to a heartbeat
pub heartbeat_reply_body_is_field : IsField (λ p. FitsResponseHeader p.0 × FitsHeartbeatReply p.1) (λ p. response_header_fields p.0 ++ heartbeat_reply_fields p.1) heartbeat_reply_body_at
unfolding heartbeat_reply_body_at
heartbeat_reply_body_is_field = pair_is_field response_header_is_field heartbeat_reply_is_field

-- the body of a reply to a commit
pub commit_reply_body_is_field : IsField (λ p. FitsResponseHeader p.0 × FitsCommitReply p.1) (λ p. response_header_fields p.0 ++ commit_reply_fields p.1) commit_reply_body_at
unfolding commit_reply_body_at
commit_reply_body_is_field = pair_is_field response_header_is_field commit_reply_is_field
