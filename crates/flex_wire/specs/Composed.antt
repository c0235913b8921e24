-- Fields made of fields, for the messages that consist of them: the spelling and the reading of each.
-- COMPACT_ARRAY is the Kafka protocol guide's, section "Protocol Primitive Types"; that the fields of a
-- struct stand one behind the other is its section "Protocol Grammar"'s.
use Rattle.std.specs.Prelude.{ℕ, zero, suc, Bool, List, [], ◌∷◌, ◌++◌, length, All, Option, Some, None, IfSome, Ok}
use Rattle.std.specs.List.{flat_map}
use Rattle.flex_wire.specs.declared.fault.WireFault.{WireFault}
use Rattle.flex_wire.specs.Spelling.{array_count, varint, FitsCount}
use Rattle.flex_wire.specs.Reading.{Read, ◌>>=◌, demand, array_count_at, nullable_array_count_at}

-- A struct of no fields.
abbrev pub nothing_at : List ℕ → Read (Unit {0})
nothing_at bytes = Ok (tt, bytes)

-- A field, and another behind it.
abbrev pub pair_at : {V W : Type 0} → (List ℕ → Read V) → (List ℕ → Read W) → List ℕ → Read (V × W)
pair_at first second bytes = first bytes >>= λ v. second v.1 >>= λ w. Ok ((v.0, w.0), w.1)

-- A field whose value is made of what stands there.
abbrev pub made_at : {V W : Type 0} → (V → W) → (List ℕ → Read V) → List ℕ → Read W
made_at make read bytes = read bytes >>= λ v. Ok (make v.0, v.1)

-- A field whose value passes a test.
abbrev pub fitting_at : {V : Type 0} → (V → Bool) → WireFault → (List ℕ → Read V) → List ℕ → Read V
fitting_at test fault read bytes = read bytes >>= λ v. demand (test v.0) fault >>= λ _. Ok v

-- COMPACT_ARRAY: a number of elements, one behind the other.
unfoldable pub elements_at : {V : Type 0} → (List ℕ → Read V) → ℕ → List ℕ → Read (List V)
elements_at read zero bytes = Ok ([], bytes)
elements_at read (suc more) bytes = read bytes >>= λ first. elements_at read more first.1 >>= λ others. Ok (first.0 ∷ others.0, others.1)

-- COMPACT_ARRAY: the number of elements and one as an UNSIGNED_VARINT, then the elements.
abbrev pub array : {V : Type 0} → (V → List ℕ) → List V → List ℕ
array spelling elements = array_count (length elements) ++ flat_map spelling elements

-- COMPACT_ARRAY: the same, read.
unfoldable pub array_at : {V : Type 0} → (List ℕ → Read V) → List ℕ → Read (List V)
array_at read bytes = array_count_at bytes >>= λ count. elements_at read count.0 count.1

-- COMPACT_ARRAY: the number of elements fits, and each element.
abbrev pub FitsArray : {V : Type 0} → (V → Type 0) → List V → Type 0
FitsArray Fits elements = FitsCount (length elements) × All Fits elements

-- COMPACT_ARRAY that may be null: the same, or the UNSIGNED_VARINT 0 for null.
abbrev pub nullable_array : {V : Type 0} → (V → List ℕ) → Option (List V) → List ℕ
nullable_array spelling None = varint 0
nullable_array spelling (Some elements) = array spelling elements

-- COMPACT_ARRAY that may be null: the elements behind their number, which may be null.
abbrev pub some_elements_at : {V : Type 0} → (List ℕ → Read V) → Option ℕ → List ℕ → Read (Option (List V))
some_elements_at read None bytes = Ok (None, bytes)
some_elements_at read (Some count) bytes = elements_at read count bytes >>= λ elements. Ok (Some elements.0, elements.1)

-- COMPACT_ARRAY that may be null: the same, read.
unfoldable pub nullable_array_at : {V : Type 0} → (List ℕ → Read V) → List ℕ → Read (Option (List V))
nullable_array_at read bytes = nullable_array_count_at bytes >>= λ count. some_elements_at read count.0 count.1

-- COMPACT_ARRAY that may be null: null, or an array that fits.
abbrev pub FitsNullableArray : {V : Type 0} → (V → Type 0) → Option (List V) → Type 0
FitsNullableArray Fits elements = IfSome elements (FitsArray Fits)
