-- The log of a partition: the batches that are kept, in the order of their offsets.
use Rattle.std.specs.Prelude.{◌≡◌, ℤ, ℕ, ◌+◌, ◌-◌, ◌^◌, ◌<◌, Bool, false, ◌||◌, ⊤, List, [], ◌∷◌, ◌++◌, length, drop, map, filter, find, sum_by, nat_lt, nat_le, int_le, slice_range, Option, option_map, if◌then◌else◌}
use Rattle.std.specs.Int.{w32, w64, to_be_bytes, cast_unsigned}
use Rattle.std.specs.List.{flat_map}
use Rattle.topic_logs.specs.Format.{natural, max_timestamp, record_count}
use Rattle.topic_logs.specs.declared.kept.KeptBatch.{KeptBatch}
use Rattle.topic_logs.specs.declared.sequence.Sent.{Sent}

-- a batch of a log: the offset of its first record, the one after its last record, and the bytes
pub record Batch : Type 0 where
  pub first : ℕ
  pub next : ℕ
  pub max_timestamp : ℤ
  pub bytes : List ℕ

-- the log as its callers see it: its batches, the offset that the next record gets, and the batches of idempotent producers
-- that it remembers
pub record Log : Type 0 where
  pub batches : List Batch
  pub end : ℕ
  pub sent : List Sent

-- a kept batch without its room
abbrev pub batch_of : KeptBatch → Batch
batch_of kept = record { first = kept.first; next = kept.next; max_timestamp = kept.max_timestamp; bytes = kept.bytes.items }

abbrev pub batches_of : List KeptBatch → List Batch
batches_of kept = map batch_of kept

-- the first offset of the batches, or the end if there is none
abbrev pub start_of : List Batch → ℕ → ℕ
start_of [] end = end
start_of (b ∷ bs) end = b.first

abbrev pub start_offset : Log → ℕ
start_offset log = start_of log.batches log.end

-- each batch has a record, and the next one begins where it ends
abbrev pub AreConsecutive : List Batch → ℕ → Type 0
AreConsecutive [] end = ⊤
AreConsecutive (b ∷ bs) end = (b.first < b.next) × (b.next ≡ start_of bs end) × AreConsecutive bs end

-- how many bytes the batches have together
abbrev pub size_of : List Batch → ℕ
size_of batches = sum_by (λ b. length b.bytes) batches

-- what holds of a log's batches: they are consecutive up to the end, an INT64, and have these bytes together
pub record IsKept (batches : List Batch) (end size : ℕ) : Type 0 where
  pub consecutive : AreConsecutive batches end
  pub bytes : size ≡ size_of batches
  pub int64 : end < 2 ^ 63

-- the bytes as they are stored: with their offset, and the epoch of the leader that appended them
unfoldable pub stored : ℕ → ℤ → List ℕ → List ℕ
stored first epoch bytes = to_be_bytes w64 first ++ (slice_range bytes 8 12 ++ (to_be_bytes w32 (cast_unsigned w32 epoch) ++ drop 16 bytes))

-- the batch of a log that the bytes of a producer become, if they begin at this offset
abbrev pub batch_at : ℕ → ℤ → List ℕ → Batch
batch_at first epoch bytes =
    record { first = first; next = first + natural (record_count bytes); max_timestamp = max_timestamp bytes; bytes = stored first epoch bytes }

-- without the oldest batches, as long as there are more bytes than these and another batch
abbrev pub retained : ℕ → List Batch → List Batch
retained retain [] = []
retained retain (b ∷ []) = b ∷ []
retained retain (b ∷ (c ∷ bs)) =
    if nat_le (size_of (b ∷ (c ∷ bs))) retain then b ∷ (c ∷ bs) else retained retain (c ∷ bs)

-- the batches that end after an offset: the first of them holds it
abbrev pub from_offset : ℕ → List Batch → List Batch
from_offset offset batches = filter (λ b. nat_lt offset b.next) batches

-- the longest run of first batches that has at most `room` bytes; `whole` says that the first comes even if it has more
abbrev pub served : Bool → ℕ → List Batch → List Batch
served whole room [] = []
served whole room (b ∷ bs) =
    if whole || nat_le (length b.bytes) room then b ∷ served false (room - length b.bytes) bs else []

-- the bytes of the batches, one after the other
abbrev pub joined : List Batch → List ℕ
joined batches = flat_map (λ b. b.bytes) batches

-- the first batch with a record at this moment or later, as its latest timestamp and its first offset
abbrev pub at_moment : ℤ → List Batch → Option (ℤ × ℕ)
at_moment moment batches = option_map (λ b. (b.max_timestamp, b.first)) (find (λ b. int_le moment b.max_timestamp) batches)
