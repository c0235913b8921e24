-- Record batches of version 2 (Kafka, "Message Format", section "Record Batch"): where each field stands, and what makes
-- bytes a batch. A reader can compare this page with that table line by line.
use Rattle.std.specs.Prelude.{◌≡◌, ◌≤ℤ◌, ◌-ℤ◌, ℤ, pos, negsuc, ℕ, ◌+◌, ◌-◌, ◌/◌, ◌%◌, ◌≤◌, List, drop, length, slice_index, slice_range}
use Rattle.std.specs.Int.{w16, w32, w64, from_be_bytes, cast_signed}
use Rattle.topic_logs.specs.Checksum.{crc32c_of}

-- an unsigned number of four bytes, the highest first
unfoldable pub uint32_at : ℕ → List ℕ → ℕ
uint32_at at bytes = from_be_bytes w32 (slice_range bytes at (at + 4))

-- INT16, INT32 and INT64: two's complement, the highest byte first
unfoldable pub int16_at : ℕ → List ℕ → ℤ
int16_at at bytes = cast_signed w16 (from_be_bytes w16 (slice_range bytes at (at + 2)))

unfoldable pub int32_at : ℕ → List ℕ → ℤ
int32_at at bytes = cast_signed w32 (from_be_bytes w32 (slice_range bytes at (at + 4)))

unfoldable pub int64_at : ℕ → List ℕ → ℤ
int64_at at bytes = cast_signed w64 (from_be_bytes w64 (slice_range bytes at (at + 8)))

-- the bytes up to the records
abbrev pub HEADER_LEN : ℕ
HEADER_LEN = 61

-- the bytes up to the end of the length, which it does not count
abbrev pub LENGTH_END : ℕ
LENGTH_END = 12

-- the fields, in their order; of the attributes the low byte, since the high one says nothing
abbrev pub base_offset : List ℕ → ℤ
base_offset bytes = int64_at 0 bytes

abbrev pub batch_length : List ℕ → ℤ
batch_length bytes = int32_at 8 bytes

abbrev pub leader_epoch : List ℕ → ℤ
leader_epoch bytes = int32_at 12 bytes

abbrev pub magic : List ℕ → ℕ
magic bytes = slice_index bytes 16

abbrev pub checksum : List ℕ → ℕ
checksum bytes = uint32_at 17 bytes

abbrev pub attributes : List ℕ → ℕ
attributes bytes = slice_index bytes 22

-- attributes, bits 4 and 5
abbrev pub IsTransactional : List ℕ → Type 0
IsTransactional bytes = attributes bytes / 16 % 2 ≡ 1

abbrev pub IsControl : List ℕ → Type 0
IsControl bytes = attributes bytes / 32 % 2 ≡ 1

abbrev pub last_offset_delta : List ℕ → ℤ
last_offset_delta bytes = int32_at 23 bytes

abbrev pub base_timestamp : List ℕ → ℤ
base_timestamp bytes = int64_at 27 bytes

abbrev pub max_timestamp : List ℕ → ℤ
max_timestamp bytes = int64_at 35 bytes

abbrev pub producer_id : List ℕ → ℤ
producer_id bytes = int64_at 43 bytes

abbrev pub producer_epoch : List ℕ → ℤ
producer_epoch bytes = int16_at 51 bytes

abbrev pub base_sequence : List ℕ → ℤ
base_sequence bytes = int32_at 53 bytes

abbrev pub record_count : List ℕ → ℤ
record_count bytes = int32_at 57 bytes

-- what the checksum covers: the attributes and all that follows
abbrev pub covered : List ℕ → List ℕ
covered bytes = drop 21 bytes

-- the length counts all bytes after it, and there is a whole header
pub record HasSize (bytes : List ℕ) : Type 0 where
  pub header : HEADER_LEN ≤ length bytes
  pub size : batch_length bytes ≡ pos (length bytes - LENGTH_END)

-- there is a record, and the offsets have no gap
pub record HasCounts (bytes : List ℕ) : Type 0 where
  pub some : pos 1 ≤ℤ record_count bytes
  pub count : last_offset_delta bytes ≡ record_count bytes -ℤ pos 1

-- the bytes are one whole batch of version 2, undamaged
pub record IsBatch (bytes : List ℕ) : Type 0 where
  pub size : HasSize bytes
  pub version : magic bytes ≡ 2
  pub undamaged : checksum bytes ≡ crc32c_of (covered bytes)
  pub counts : HasCounts bytes

-- the number of a field that is not negative
abbrev pub natural : ℤ → ℕ
natural (pos n) = n
natural (negsuc n) = 0
