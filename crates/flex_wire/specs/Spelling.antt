-- The one spelling of each primitive field, and which values have one. The names are those of the
-- Kafka protocol guide, section "Protocol Primitive Types", and of KIP-482; a reader can compare this
-- page with them line by line.
use Rattle.std.specs.Prelude.{◌≡◌, ℤ, pos, negsuc, ℕ, zero, suc, ◌+◌, ◌/◌, ◌%◌, ◌^◌, ◌<◌, ◌≤◌, Bool, true, false, List, [], ◌∷◌, ◌++◌, length, map, Option, Some, None, IfSome, IsUtf8, All, nat_lt, if◌then◌else◌}
use Rattle.std.specs.Int.{Width, w16, w32, w64, to_be_bytes, cast_unsigned}
use Rattle.std.specs.List.{flat_map}
use Rattle.std.specs.List.Sorted.{IsStrictlyIncreasing}
use Rattle.flex_wire.specs.Limits.{LONGEST_STRING}

-- A signed number in two's complement, its highest byte first ("network byte order").
unfoldable pub signed : Width → ℤ → List ℕ
signed w z = to_be_bytes w (cast_unsigned w z)

-- INT16: an integer between -2^15 and 2^15 - 1, in two bytes.
abbrev pub int16 : ℤ → List ℕ
int16 z = signed w16 z

-- INT32: an integer between -2^31 and 2^31 - 1, in four bytes.
abbrev pub int32 : ℤ → List ℕ
int32 z = signed w32 z

-- INT64: an integer between -2^63 and 2^63 - 1, in eight bytes.
abbrev pub int64 : ℤ → List ℕ
int64 z = signed w64 z

-- UUID: its sixteen bytes.
abbrev pub uuid : List ℕ → List ℕ
uuid id = id

-- UUID: sixteen bytes are one.
abbrev pub FitsUuid : List ℕ → Type 0
FitsUuid id = length id ≡ 16

-- UNSIGNED_VARINT (KIP-482): groups of seven bits, the lowest first, the high bit set on all but the
-- last; as few as the number needs (ours: KIP-482 allows more), and at most `more` behind the first.
unfoldable pub varint_groups : ℕ → ℕ → List ℕ
varint_groups zero n = n ∷ []
varint_groups (suc more) n = if nat_lt n 128 then n ∷ [] else (n % 128 + 128) ∷ varint_groups more (n / 128)

-- UNSIGNED_VARINT (KIP-482): at most five groups.
unfoldable pub varint : ℕ → List ℕ
varint n = varint_groups 4 n

-- UNSIGNED_VARINT (KIP-482): a number of 32 bits.
abbrev pub FitsVarint : ℕ → Type 0
FitsVarint n = n < 2 ^ 32

-- COMPACT_STRING and its kin: UTF-8, not longer than the greatest INT16.
pub record FitsText (text : List ℕ) : Type 0 where
  pub length : length text ≤ LONGEST_STRING
  pub utf8 : IsUtf8 text

-- COMPACT_STRING: the length and one as an UNSIGNED_VARINT, then the bytes.
unfoldable pub compact_string : List ℕ → List ℕ
compact_string text = varint (length text + 1) ++ text

-- COMPACT_NULLABLE_STRING: a COMPACT_STRING, or the UNSIGNED_VARINT 0 for null.
unfoldable pub compact_nullable_string : Option (List ℕ) → List ℕ
compact_nullable_string None = varint 0
compact_nullable_string (Some text) = compact_string text

-- NULLABLE_STRING: the length as an INT16, then the bytes, or the length -1 for null.
unfoldable pub nullable_string : Option (List ℕ) → List ℕ
nullable_string None = int16 (negsuc 0)
nullable_string (Some text) = int16 (pos (length text)) ++ text

-- COMPACT_NULLABLE_STRING and NULLABLE_STRING: null, or a text that fits.
abbrev pub FitsNullableText : Option (List ℕ) → Type 0
FitsNullableText text = IfSome text FitsText

-- COMPACT_ARRAY: the number of elements and one as an UNSIGNED_VARINT, before the elements.
unfoldable pub array_count : ℕ → List ℕ
array_count count = varint (count + 1)

-- COMPACT_ARRAY: the number of elements and one fits its UNSIGNED_VARINT.
abbrev pub FitsCount : ℕ → Type 0
FitsCount count = count + 1 < 2 ^ 32

-- COMPACT_ARRAY that may be null: the same, or the UNSIGNED_VARINT 0 for null.
unfoldable pub nullable_array_count : Option ℕ → List ℕ
nullable_array_count None = varint 0
nullable_array_count (Some count) = array_count count

-- COMPACT_ARRAY that may be null: null, or a number of elements that fits.
abbrev pub FitsNullableCount : Option ℕ → Type 0
FitsNullableCount count = IfSome count FitsCount

-- A struct that may be null begins with an INT8: -1 where it is null, 1 where it is present.
abbrev pub mark : Bool → List ℕ
mark false = 0xff ∷ []
mark true = 0x01 ∷ []

-- A tagged field (KIP-482): its tag, and its bytes, which nobody interprets here.
pub record Tagged : Type 0 where
  pub tag : ℕ
  pub value : List ℕ

-- A tagged field (KIP-482): the tag and the size, each as an UNSIGNED_VARINT, then that many bytes.
unfoldable pub tagged_field : Tagged → List ℕ
tagged_field field = varint field.tag ++ (varint (length field.value) ++ field.value)

-- TAG_BUFFER (KIP-482): the number of tagged fields as an UNSIGNED_VARINT, then the fields.
unfoldable pub tagged_fields : List Tagged → List ℕ
tagged_fields fields = varint (length fields) ++ flat_map tagged_field fields

-- A tagged field (KIP-482): the tag and the size fit their UNSIGNED_VARINTs.
pub record FitsTaggedField (field : Tagged) : Type 0 where
  pub tag : FitsVarint field.tag
  pub size : FitsVarint (length field.value)

-- TAG_BUFFER (KIP-482): the tags rise strictly, so none comes twice.
pub record FitsTaggedFields (fields : List Tagged) : Type 0 where
  pub count : FitsVarint (length fields)
  pub each : All FitsTaggedField fields
  pub rising : IsStrictlyIncreasing (map (λ field. field.tag) fields)
