-- A request with more elements in an array than a body may have bytes is too large, and one with no more can be written.
use Rattle.std.proofs.Common.{◌≡◌, ℕ, zero, suc, ◌+◌, ◌≤◌, ◌<◌, ℤ, Bool, true, false, cond, ◌&&◌, nat_lt, List, [], ◌∷◌, ◌++◌, length, get_or, Option, Some, None, IfSome, All, refl, ap, arith, ◌%◌, ◌/◌, length-append, true≢false, if◌then◌else◌}
use Rattle.std.specs.List.{flat_map, list_all}
use Rattle.std.specs.Cmp.{first_so, second_so}
use Rattle.std.proofs.lemmas.Bool.{leb-true}
use Rattle.std.proofs.lemmas.Bool.Decides.{nat_tests}
use Rattle.std.proofs.lemmas.List.Sums.{AllPass-from_list_all}
use Rattle.group_types.specs.Limits.{LARGEST_BODY}
use Rattle.flex_wire.specs.Spelling.{signed, int32, int64, varint, varint_groups, compact_string, compact_nullable_string, tagged_fields, array_count, FitsCount, FitsTaggedFields}
use Rattle.flex_wire.specs.Composed.{array, nullable_array}
use Rattle.kip_msgs.specs.declared.api.Api.TheVariants.{Heartbeat, Commit}
use Rattle.kip_msgs.specs.Values.{TopicPartitionsValue, HeartbeatRequestValue, CommitRequestPartitionValue, CommitRequestTopicValue, CommitRequestValue, RequestValue, heartbeat_request, commit_request}
use Rattle.kip_msgs.specs.Spelling.{fields, topic_partitions_fields, heartbeat_request_fields, commit_request_partition_fields, commit_request_topic_fields, commit_request_fields, request_header_fields, request_body}
use Rattle.kip_msgs.specs.Writable.{IsShort, IsWritableArray, IsWritableTopic, IsWritableCommitRequestTopic, IsWritableRequest}
use Rattle.member_core.specs.Writing.{is_few, are_few_names, are_few_owned, are_few_offsets, are_few, HasShortTopic, HasShortRequest}
use Rattle.member_core.specs.Refusing.{size_refusal, is_too_large}
use Rattle.member_core.specs.declared.fault.BeatFault.TheVariants.{TooLarge}

-- ---- few enough

pub fits_few : (n : ℕ) → is_few n ≡ true → FitsCount n
fits_few n so = omega (arith, leb-true n LARGEST_BODY so)

names_written : (names : Option (List (List ℕ))) → IfSome names (All IsShort) → are_few_names names ≡ true → IfSome names (IsWritableArray IsShort)
names_written None short few = tt
names_written (Some names) short few = record { count = fits_few (length names) few; each = short }

owned_written : (topics : Option (List TopicPartitionsValue)) → IfSome topics (All (λ t. FitsTaggedFields t.tags)) → are_few_owned topics ≡ true → IfSome topics (IsWritableArray IsWritableTopic)
owned_written None fit few = tt
owned_written (Some topics) fit few =
    let each = AllPass-from_list_all (λ t. is_few (length t.partitions)) topics (second_so _ _ few) in
    record {
      count = fits_few (length topics) (first_so _ _ few);
      each = λ k d below. record { partitions = fits_few _ (each k d below); tags = fit k d below };
    }

offsets_written : (topics : List CommitRequestTopicValue) → All HasShortTopic topics → are_few_offsets topics ≡ true → IsWritableArray IsWritableCommitRequestTopic topics
offsets_written topics short few =
    let each = AllPass-from_list_all (λ t. is_few (length t.partitions)) topics (second_so _ _ few) in
    record {
      count = fits_few (length topics) (first_so _ _ few);
      each = λ k d below.
          let topic = short k d below in
          record { name = topic.name; partitions = record { count = fits_few _ (each k d below); each = topic.partitions }; tags = topic.tags };
    }

pub written : (v : RequestValue) → HasShortRequest v → are_few v ≡ true → IsWritableRequest v
written (heartbeat_request header v) short few = (
  short.0,
  record {
    group_id = short.1.group_id;
    member_id = short.1.member_id;
    instance_id = short.1.instance_id;
    rack_id = short.1.rack_id;
    subscribed_topic_names = names_written v.subscribed_topic_names short.1.subscribed_topic_names (first_so _ _ few);
    server_assignor = short.1.server_assignor;
    topic_partitions = owned_written v.topic_partitions short.1.topic_partitions (second_so (are_few_names v.subscribed_topic_names) _ few);
    tags = short.1.tags;
  },
)
written (commit_request header v) short few = (
  short.0,
  record {
    group_id = short.1.group_id;
    member_id = short.1.member_id;
    group_instance_id = short.1.group_instance_id;
    topics = offsets_written v.topics short.1.topics few;
    tags = short.1.tags;
  },
)

-- ---- too many

-- a field is within its message
within : (xs : List (List ℕ)) (k : ℕ) → length (get_or xs k []) ≤ length (fields xs)
within [] k = omega arith
within (x ∷ xs) zero = omega (arith, length-append x (fields xs))
within (x ∷ xs) (suc k) = omega (arith, length-append x (fields xs), within xs k)

varint_has : (n : ℕ) → 1 ≤ length (varint n)
unfolding varint varint_groups
varint_has n = elim (nat_lt n 128) as (λ b. 1 ≤ length (cond b (n ∷ []) ((n % 128 + 128) ∷ varint_groups 3 (n / 128)))) [ true ↦ omega arith | false ↦ omega arith ]

count_has : (n : ℕ) → 1 ≤ length (array_count n)
unfolding array_count
count_has n = varint_has (n + 1)

int32_has : (z : ℤ) → 1 ≤ length (int32 z)
unfolding signed
int32_has z = omega arith

name_has : (text : List ℕ) → 1 ≤ length (compact_string text)
unfolding compact_string
name_has text = omega (arith, length-append (varint (length text + 1)) text, varint_has (length text + 1))

-- elements of a byte at least
as_many : {X : Type 0} (f : X → List ℕ) → ((x : X) → 1 ≤ length (f x)) → (xs : List X) → length xs ≤ length (flat_map f xs)
as_many f has [] = omega arith
as_many f has (x ∷ xs) = omega (arith, length-append (f x) (flat_map f xs), has x, as_many f has xs)

in_array : {X : Type 0} (f : X → List ℕ) (xs : List X) → length (flat_map f xs) ≤ length (array f xs)
in_array f xs = omega (arith, length-append (array_count (length xs)) (flat_map f xs))

array_has : {X : Type 0} (f : X → List ℕ) (xs : List X) → 1 ≤ length (array f xs)
array_has f xs = omega (arith, length-append (array_count (length xs)) (flat_map f xs), count_has (length xs))

not_few : (n : ℕ) → is_few n ≡ false → LARGEST_BODY < n
not_few n so = grind (arith, nat_tests)

-- an element that is too long
over_one : {X : Type 0} (f : X → List ℕ) (test : X → Bool) → ((x : X) → test x ≡ false → LARGEST_BODY < length (f x)) → (xs : List X) → list_all test xs ≡ false → LARGEST_BODY < length (flat_map f xs)
over_one f test over [] none = absurd (true≢false none)
over_one f test over (x ∷ xs) some =
    let whole = length-append (f x) (flat_map f xs) in
    elim (test x) as (λ b. test x ≡ b → (b && list_all test xs) ≡ false → LARGEST_BODY < length (f x ++ flat_map f xs)) [
      | true ↦ λ _ rest. let behind = over_one f test over xs rest in omega arith
      | false ↦ λ here _. let first = over x here in omega arith
    ] refl some

-- either too many elements or one that is too long
over_array : {X : Type 0} (f : X → List ℕ) (test : X → Bool) → ((x : X) → 1 ≤ length (f x)) → ((x : X) → test x ≡ false → LARGEST_BODY < length (f x))
    → (xs : List X) → (is_few (length xs) && list_all test xs) ≡ false → LARGEST_BODY < length (array f xs)
over_array f test has over xs some =
    let inside = in_array f xs in
    elim (is_few (length xs)) as (λ b. is_few (length xs) ≡ b → (b && list_all test xs) ≡ false → LARGEST_BODY < length (array f xs)) [
      | true ↦ λ _ rest. let one = over_one f test over xs rest in omega arith
      | false ↦ λ many _. let all = as_many f has xs in let more = not_few (length xs) many in omega arith
    ] refl some

topic_has : (t : TopicPartitionsValue) → 1 ≤ length (topic_partitions_fields t)
unfolding topic_partitions_fields
topic_has t = omega (arith, within (t.topic_id ∷ array int32 t.partitions ∷ tagged_fields t.tags ∷ []) 1, array_has int32 t.partitions)

topic_over : (t : TopicPartitionsValue) → is_few (length t.partitions) ≡ false → LARGEST_BODY < length (topic_partitions_fields t)
unfolding topic_partitions_fields
topic_over t many =
    omega (arith, within (t.topic_id ∷ array int32 t.partitions ∷ tagged_fields t.tags ∷ []) 1, in_array int32 t.partitions, as_many int32 int32_has t.partitions, not_few _ many)

offset_has : (p : CommitRequestPartitionValue) → 1 ≤ length (commit_request_partition_fields p)
unfolding commit_request_partition_fields
offset_has p =
    omega (arith, int32_has p.partition_index, within (int32 p.partition_index ∷ int64 p.committed_offset ∷ int32 p.committed_leader_epoch ∷ compact_nullable_string p.committed_metadata ∷ tagged_fields p.tags ∷ []) 0)

abbrev offsets_in : CommitRequestTopicValue → List (List ℕ)
offsets_in t = compact_string t.name ∷ array commit_request_partition_fields t.partitions ∷ tagged_fields t.tags ∷ []

commit_topic_has : (t : CommitRequestTopicValue) → 1 ≤ length (commit_request_topic_fields t)
unfolding commit_request_topic_fields
commit_topic_has t = omega (arith, within (offsets_in t) 1, array_has commit_request_partition_fields t.partitions)

commit_topic_over : (t : CommitRequestTopicValue) → is_few (length t.partitions) ≡ false → LARGEST_BODY < length (commit_request_topic_fields t)
unfolding commit_request_topic_fields
commit_topic_over t many =
    omega (arith, within (offsets_in t) 1, in_array commit_request_partition_fields t.partitions, as_many commit_request_partition_fields offset_has t.partitions, not_few _ many)

names_over : (names : Option (List (List ℕ))) → are_few_names names ≡ false → LARGEST_BODY < length (nullable_array compact_string names)
names_over None none = absurd (true≢false none)
names_over (Some names) many = omega (arith, in_array compact_string names, as_many compact_string name_has names, not_few _ many)

owned_over : (topics : Option (List TopicPartitionsValue)) → are_few_owned topics ≡ false → LARGEST_BODY < length (nullable_array topic_partitions_fields topics)
owned_over None none = absurd (true≢false none)
owned_over (Some topics) some = over_array topic_partitions_fields _ topic_has topic_over topics some

abbrev heartbeat_in : HeartbeatRequestValue → List (List ℕ)
heartbeat_in v =
    compact_string v.group_id
    ∷ compact_string v.member_id
    ∷ int32 v.member_epoch
    ∷ compact_nullable_string v.instance_id
    ∷ compact_nullable_string v.rack_id
    ∷ int32 v.rebalance_timeout_ms
    ∷ nullable_array compact_string v.subscribed_topic_names
    ∷ compact_nullable_string v.server_assignor
    ∷ nullable_array topic_partitions_fields v.topic_partitions
    ∷ tagged_fields v.tags
    ∷ []

heartbeat_over : (v : HeartbeatRequestValue) → (are_few_names v.subscribed_topic_names && are_few_owned v.topic_partitions) ≡ false → LARGEST_BODY < length (heartbeat_request_fields v)
unfolding heartbeat_request_fields
heartbeat_over v some =
    elim (are_few_names v.subscribed_topic_names) as (λ b. are_few_names v.subscribed_topic_names ≡ b → (b && are_few_owned v.topic_partitions) ≡ false → LARGEST_BODY < length (fields (heartbeat_in v))) [
      | true ↦ λ _ owned. omega (arith, within (heartbeat_in v) 8, owned_over v.topic_partitions owned)
      | false ↦ λ names _. omega (arith, within (heartbeat_in v) 6, names_over v.subscribed_topic_names names)
    ] refl some

abbrev commit_in : CommitRequestValue → List (List ℕ)
commit_in v =
    compact_string v.group_id
    ∷ int32 v.generation_id_or_member_epoch
    ∷ compact_string v.member_id
    ∷ compact_nullable_string v.group_instance_id
    ∷ array commit_request_topic_fields v.topics
    ∷ tagged_fields v.tags
    ∷ []

commit_over : (v : CommitRequestValue) → are_few_offsets v.topics ≡ false → LARGEST_BODY < length (commit_request_fields v)
unfolding commit_request_fields
commit_over v some =
    omega (arith, within (commit_in v) 4, over_array commit_request_topic_fields _ commit_topic_has commit_topic_over v.topics some)

over : (v : RequestValue) → are_few v ≡ false → LARGEST_BODY < length (request_body v)
unfolding request_body
over (heartbeat_request header v) some = omega (arith, length-append (request_header_fields Heartbeat header) (heartbeat_request_fields v), heartbeat_over v some)
over (commit_request header v) some = omega (arith, length-append (request_header_fields Commit header) (commit_request_fields v), commit_over v some)

-- a body of more bytes than a frame may have is refused
pub refused : (v : RequestValue) → LARGEST_BODY < length (request_body v) → size_refusal v ≡ Some TooLarge
refused v more = let large : is_too_large v ≡ true = grind (arith, nat_tests) in ap (λ b. if b then Some TooLarge else None) large

pub many_refused : (v : RequestValue) → are_few v ≡ false → size_refusal v ≡ Some TooLarge
many_refused v some = refused v (over v some)

-- so one that isn't too large has few elements in each array
pub few_within : (v : RequestValue) → is_too_large v ≡ false → are_few v ≡ true
few_within v small = elim (are_few v) as (λ b. are_few v ≡ b → b ≡ true) [
  | true ↦ λ _. refl
  | false ↦ λ some. let more = over v some in grind (arith, nat_tests)
] refl
