-- Reading a field from the front of a list of bytes: its value and the bytes after it, or the first
-- fault that is met. That a value is read exactly where it stands as Spelling spells it is a law
-- (IsField); what is left for this page is which fault comes first. The names are those of the Kafka
-- protocol guide, section "Protocol Primitive Types", and of KIP-482.
use Rattle.std.specs.Prelude.{ℤ, pos, negsuc, ◌≡◌, ◌≢◌, ℕ, zero, suc, ◌+◌, ◌-◌, ◌*◌, ◌==◌, nat_lt, nat_le, Bool, true, false, not, List, [], ◌∷◌, length, take, drop, Option, Some, None, Result, Ok, Err, if◌then◌else◌}
use Rattle.std.specs.Int.{Width, w16, byte_len, from_be_bytes, cast_signed}
use Rattle.std.specs.Str.{is_utf8}
use Rattle.flex_wire.specs.declared.fault.WireFault.{WireFault}
use Rattle.flex_wire.specs.declared.fault.WireFault.TheVariants.{Short, NotShortest, TooLong, NotUtf8, TagOrder, BadCount, BadMark, NoMemory}
use Rattle.flex_wire.specs.Limits.{LONGEST_STRING}
use Rattle.flex_wire.specs.Spelling.{Tagged}

-- What reading gives: a value and the bytes after it, or the first fault.
abbrev pub Read : Type 0 → Type 0
Read V = Result (V × List ℕ) WireFault

-- What is read, and then what is read behind it; a fault ends the reading.
infixl 10 ◌>>=◌
abbrev pub ◌>>=◌ : {A B : Type 0} → Result A WireFault → (A → Result B WireFault) → Result B WireFault
(Ok x) >>= f = f x
(Err e) >>= f = Err e

-- A test, and the fault where it fails.
abbrev pub demand : Bool → WireFault → Result (Unit {0}) WireFault
demand test fault = if test then Ok tt else Err fault

-- What a function returned, seen by view, is what reading gives.
abbrev pub Reads : {X Y : Type 0} → (X → Y) → Result X WireFault → Result Y WireFault → Type 0
Reads view (Ok x) read = read ≡ Ok (view x)
Reads view (Err e) read = read ≡ Err e

-- The same, unless memory ran out.
abbrev pub ReadsInMemory : {X Y : Type 0} → (X → Y) → Result X WireFault → Result Y WireFault → Type 0
ReadsInMemory view (Ok x) read = read ≡ Ok (view x)
ReadsInMemory view (Err e) read = e ≢ NoMemory → read ≡ Err e

-- What a function returned, seen by view, is this value and the bytes after it.
abbrev pub Takes : {X V : Type 0} → (X → V × List ℕ) → Result X WireFault → V → List ℕ → Type 0
Takes {X} {V} view result value rest = Reads {Y = V × List ℕ} view result (Ok (value, rest))

-- The same, unless memory ran out.
abbrev pub TakesInMemory : {X V : Type 0} → (X → V × List ℕ) → Result X WireFault → V → List ℕ → Type 0
TakesInMemory {X} {V} view result value rest = ReadsInMemory {Y = V × List ℕ} view result (Ok (value, rest))

-- The first `size` bytes.
unfoldable pub bytes_at : ℕ → List ℕ → Read (List ℕ)
bytes_at size bytes = if nat_lt (length bytes) size then Err Short else Ok (take size bytes, drop size bytes)

-- INT16, INT32, INT64: two's complement, the highest byte first.
unfoldable pub signed_at : Width → List ℕ → Read ℤ
signed_at w bytes = do
  front ← bytes_at (byte_len w) bytes
  Ok (cast_signed w (from_be_bytes w front.0), front.1)

-- UUID: sixteen bytes.
unfoldable pub uuid_at : List ℕ → Read (List ℕ)
uuid_at bytes = bytes_at 16 bytes

-- UNSIGNED_VARINT (KIP-482): the groups behind the first; at most `more` may stand behind the next,
-- none of them is 0 as the last, and the fifth of all has four bits.
unfoldable pub groups_at : ℕ → List ℕ → Read ℕ
groups_at more [] = Err Short
groups_at zero (byte ∷ rest) = do
  _ ← demand (nat_le byte 0x0f) TooLong
  _ ← demand (not (byte == 0)) NotShortest
  Ok (byte, rest)
groups_at (suc more) (byte ∷ rest) = do
  _ ← demand (not (byte == 0)) NotShortest
  if nat_lt byte 128 then Ok (byte, rest) else (groups_at more rest >>= λ high. Ok (byte - 128 + 128 * high.0, high.1))

-- UNSIGNED_VARINT (KIP-482): its shortest form alone, a rule of this crate, and at most five bytes.
unfoldable pub varint_at : List ℕ → Read ℕ
varint_at [] = Err Short
varint_at (byte ∷ rest) =
    if nat_lt byte 128 then Ok (byte, rest) else (groups_at 3 rest >>= λ high. Ok (byte - 128 + 128 * high.0, high.1))

-- A text of `size` bytes, behind its length.
unfoldable pub text_at : ℕ → List ℕ → Read (List ℕ)
text_at size bytes = do
  text ← bytes_at size bytes
  _ ← demand (is_utf8 text.0) NotUtf8
  Ok text

-- COMPACT_STRING: the text behind the UNSIGNED_VARINT that is its length and one.
unfoldable pub compact_text_at : ℕ → List ℕ → Read (List ℕ)
compact_text_at code bytes = do
  _ ← demand (nat_le (code - 1) LONGEST_STRING) TooLong
  text_at (code - 1) bytes

-- COMPACT_STRING: 0 is no length of one.
unfoldable pub compact_string_at : List ℕ → Read (List ℕ)
compact_string_at bytes = do
  code ← varint_at bytes
  _ ← demand (not (code.0 == 0)) BadCount
  compact_text_at code.0 code.1

-- COMPACT_NULLABLE_STRING: 0 is null.
unfoldable pub compact_nullable_string_at : List ℕ → Read (Option (List ℕ))
compact_nullable_string_at bytes = do
  code ← varint_at bytes
  if code.0 == 0 then Ok (None, code.1) else (compact_text_at code.0 code.1 >>= λ text. Ok (Some text.0, text.1))

-- NULLABLE_STRING: the text behind its length; -1 is null, and no other length is negative.
unfoldable pub nullable_text_at : ℤ → List ℕ → Read (Option (List ℕ))
nullable_text_at (pos size) bytes = do
  text ← text_at size bytes
  Ok (Some text.0, text.1)
nullable_text_at (negsuc zero) bytes = Ok (None, bytes)
nullable_text_at (negsuc (suc n)) bytes = Err BadCount

-- NULLABLE_STRING: the length is an INT16.
unfoldable pub nullable_string_at : List ℕ → Read (Option (List ℕ))
nullable_string_at bytes = do
  size ← signed_at w16 bytes
  nullable_text_at size.0 size.1

-- COMPACT_ARRAY: the number of elements; 0 is no number and one.
unfoldable pub array_count_at : List ℕ → Read ℕ
array_count_at bytes = do
  code ← varint_at bytes
  _ ← demand (not (code.0 == 0)) BadCount
  Ok (code.0 - 1, code.1)

-- COMPACT_ARRAY that may be null: 0 is null.
unfoldable pub nullable_array_count_at : List ℕ → Read (Option ℕ)
nullable_array_count_at bytes = do
  code ← varint_at bytes
  Ok ((if code.0 == 0 then None else Some (code.0 - 1)), code.1)

-- A struct that may be null: its first byte.
unfoldable pub mark_at : List ℕ → Read Bool
mark_at [] = Err Short
mark_at (byte ∷ rest) = if byte == 0xff then Ok (false, rest) else if byte == 0x01 then Ok (true, rest) else Err BadMark

-- TAG_BUFFER (KIP-482): a tag is above the last one before it.
abbrev pub comes_after : Option ℕ → ℕ → Bool
comes_after None tag = true
comes_after (Some last) tag = nat_lt last tag

-- A tagged field (KIP-482) behind the last tag; its order is judged before its size is read.
unfoldable pub tagged_field_at : Option ℕ → List ℕ → Read Tagged
tagged_field_at last bytes = do
  tag ← varint_at bytes
  _ ← demand (comes_after last tag.0) TagOrder
  size ← varint_at tag.1
  value ← bytes_at size.0 size.1
  Ok (record { tag = tag.0; value = value.0 }, value.1)

-- TAG_BUFFER (KIP-482): a number of tagged fields behind the last tag.
unfoldable pub tagged_fields_behind : Option ℕ → ℕ → List ℕ → Read (List Tagged)
tagged_fields_behind last zero bytes = Ok ([], bytes)
tagged_fields_behind last (suc more) bytes = do
  first ← tagged_field_at last bytes
  others ← tagged_fields_behind (Some first.0.tag) more first.1
  Ok (first.0 ∷ others.0, others.1)

-- TAG_BUFFER (KIP-482): the number of tagged fields, then the fields.
unfoldable pub tagged_fields_at : List ℕ → Read (List Tagged)
tagged_fields_at bytes = do
  count ← varint_at bytes
  tagged_fields_behind None count.0 count.1
