-- A reply of the machine can be written, and its body is short.
use Rattle.std.proofs.Common.{◌≡◌, ℕ, suc, zero, ◌+◌, ◌-◌, ◌≤◌, ◌<◌, ◌^◌, ℤ, List, [], ◌∷◌, ◌++◌, length, take, drop, Option, option_map, Some, None, All, IfSome, sym, ap, ◌∙◌, arith, length-append, append_assoc, append-nil}
use Rattle.std.proofs.lemmas.List.{drop_all, drop_at, take_all, take_at}
use Rattle.std.specs.Option.{option_map_or}
use Rattle.group_types.specs.declared.code.Code.{Code}
use Rattle.group_types.specs.Code.{code_text}
use Rattle.group_types.specs.Limits.{LONGEST_STRING, MOST_PARTITIONS}
use Rattle.group_types.specs.Sets.{in_order, size}
use Rattle.group_types.specs.Partition.{Partitions}
use Rattle.group_types.specs.HeartbeatStep.{Reply, Replied}
use Rattle.flex_wire.specs.Spelling.{FitsTaggedFields}
use Rattle.kip_msgs.specs.Values.{TopicPartitionsValue}
use Rattle.kip_msgs.specs.Spelling.{reply_body}
use Rattle.kip_msgs.specs.Writable.{IsShortIfAny, IsWritableTopic, IsWritableAssignment, IsWritableReply}
use Rattle.group_core.specs.Listing.{listed}
use Rattle.kip_msgs.proofs.ListingLemmas.{HaveNoTags, indexes_in}
use Rattle.group_core.proofs.ListingLemmas.{HaveNoTags-listed, indexes_in-listed, length-listed}
use Rattle.coord_node.specs.Answers.{HasRoomInFrame, IsSendable}
use Rattle.coord_node.specs.Replies.{assignment_value, reply_value}
use Rattle.coord_node.proofs.LengthLemmas.{HaveAssignedIds, length-code_text, length-reply_body}

pub FitsTaggedFields-nil : FitsTaggedFields []
FitsTaggedFields-nil = record { count = omega arith; each = λ k d h. absurd (omega arith); rising = λ k h. omega arith }

-- an entry has no more indexes than its listing
writable_topics : (ts : List TopicPartitionsValue) (most : ℕ) → indexes_in ts ≤ most → most ≤ MOST_PARTITIONS → HaveNoTags ts → All IsWritableTopic ts
writable_topics [] most few small none k d h = absurd (omega arith)
writable_topics (t ∷ ts) most few small none zero d h =
    record { partitions = omega arith; tags = rw (none.0) FitsTaggedFields-nil }
writable_topics (t ∷ ts) most few small none (suc k) d h =
    writable_topics ts most (omega arith) small none.1 k d (omega arith)

IsShort-text : (code : Code) → IsShortIfAny (code_text code)
IsShort-text code = by (code_text code) (length-code_text code)
  where
    by : (text : Option (List ℕ)) → option_map_or length text 0 ≤ 25 → IsShortIfAny text
    by None short = tt
    by (Some text) short = omega arith

IsWritableAssignment-set : (set : Partitions) → length (in_order set) ≤ MOST_PARTITIONS → IsWritableAssignment (assignment_value set)
IsWritableAssignment-set set few =
    record {
      topic_partitions = record {
        count = omega (arith, length-listed (in_order set));
        each = writable_topics (listed (in_order set)) MOST_PARTITIONS (omega (arith, indexes_in-listed (in_order set))) (omega arith) (HaveNoTags-listed (in_order set));
      };
      tags = FitsTaggedFields-nil;
    }

writable_assignment : (a : Option Partitions) → IfSome a (λ set. length (in_order set) ≤ MOST_PARTITIONS) → IfSome (option_map assignment_value a) IsWritableAssignment
writable_assignment None few = tt
writable_assignment (Some set) few = IsWritableAssignment-set set few

-- a reply that can be sent can be written
IsWritableReply-reply : (correlation : ℤ) (r : Reply) (left : ℕ) → IsSendable (Replied r) left → IsWritableReply (reply_value correlation r)
IsWritableReply-reply correlation r left sendable = (
  FitsTaggedFields-nil,
  record {
    error_message = IsShort-text r.code;
    member_id = sendable.id;
    assignment = writable_assignment r.assignment sendable.few;
    tags = FitsTaggedFields-nil;
  },
)

-- and its size is one
length-reply : (correlation : ℤ) (r : Reply) (left : ℕ) → IsSendable (Replied r) left → HaveAssignedIds r.assignment
    → length (reply_body (reply_value correlation r)) < 2 ^ 31
length-reply correlation r left sendable ids =
    omega (arith, length-reply_body correlation r ids, short_id r.member sendable.id, few_partitions r.assignment sendable.few)
  where
    short_id : (member : Option (List ℕ)) → IfSome member (λ id. length id ≤ LONGEST_STRING) → option_map_or length member 0 ≤ LONGEST_STRING
    short_id None short = omega arith
    short_id (Some id) short = short

    few_partitions : (a : Option Partitions) → IfSome a (λ set. length (in_order set) ≤ MOST_PARTITIONS) → option_map_or size a 0 ≤ MOST_PARTITIONS
    few_partitions None few = omega arith
    few_partitions (Some set) few = few

-- and its frame has room
pub HasRoomInFrame-reply : (correlation : ℤ) (r : Reply) (left : ℕ) → IsSendable (Replied r) left → HaveAssignedIds r.assignment
    → HasRoomInFrame (reply_value correlation r) left
HasRoomInFrame-reply correlation r left sendable ids =
    record {
      writable = IsWritableReply-reply correlation r left sendable;
      short = length-reply correlation r left sendable ids;
      room = omega (arith, length-reply_body correlation r ids, sendable.room);
    }

-- four bytes of the items from the start on, with the size in their place
abbrev pub patched : List ℕ → List ℕ → ℕ → List ℕ
patched items size start = take start items ++ (size ++ drop (start + 4 - start) (drop start items))

-- a size written over the four bytes that were left for it
pub sized : (old zeros body size items : List ℕ) (start n : ℕ) → items ≡ (old ++ zeros) ++ body → start ≡ length old → length zeros ≡ 4 → length size ≡ 4
    → n ≡ length items → take n (patched items size start ++ drop (length (patched items size start)) items) ≡ old ++ (size ++ body)
sized old zeros body size items start n is at four also_four all =
    let whole : items ≡ old ++ (zeros ++ body) = is ∙ append_assoc old zeros body in
    let front : take start items ≡ old = ap (take start) whole ∙ take_at old (zeros ++ body) start (sym at) in
    let rest : drop start items ≡ zeros ++ body = ap (drop start) whole ∙ drop_at old (zeros ++ body) start (sym at) in
    let behind : drop (start + 4 - start) (drop start items) ≡ body = ap (drop (start + 4 - start)) rest ∙ drop_at zeros body (start + 4 - start) (omega arith) in
    let middle : patched items size start ≡ old ++ (size ++ body) = (λ i. front i ++ (size ++ behind i)) in
    let count : length items ≡ length (old ++ (size ++ body)) =
    omega (arith, ap length whole, length-append old (zeros ++ body), length-append zeros body, length-append old (size ++ body), length-append size body) in
    let none : drop (length (old ++ (size ++ body))) items ≡ [] = drop_all (length (old ++ (size ++ body))) items (omega arith) in
    ap (λ (m : List ℕ). take n (m ++ drop (length m) items)) middle
    ∙ ap (λ (m : List ℕ). take n ((old ++ (size ++ body)) ++ m)) none
    ∙ ap (take n) (append-nil (old ++ (size ++ body)))
    ∙ take_all n (old ++ (size ++ body)) (omega arith)
