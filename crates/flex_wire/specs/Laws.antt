-- The laws between a field's spelling and its reading.
use Rattle.std.specs.Prelude.{◌≡◌, ℕ, ◌<◌, List, ◌++◌, Ok, slice_index}
use Rattle.flex_wire.specs.Reading.{Read}

-- Each number is a byte.
abbrev pub AreBytes : List ℕ → Type 0
AreBytes bytes = (i : ℕ) → slice_index bytes i < 256

-- What is taken is spelled so and fits; what is spelled so is taken, whatever follows.
pub record IsField {V : Type 0} (Fits : V → Type 0) (spelling : V → List ℕ) (read : List ℕ → Read V) : Type 0 where
  pub taken : (bytes : List ℕ) (value : V) (rest : List ℕ) → AreBytes bytes → read bytes ≡ Ok (value, rest) → Fits value × (bytes ≡ spelling value ++ rest)
  pub again : (value : V) (rest : List ℕ) → Fits value → read (spelling value ++ rest) ≡ Ok (value, rest)

-- No spelling begins another, and one spelling means one value.
abbrev pub BeginsNoOther : {V : Type 0} → (V → Type 0) → (V → List ℕ) → Type 0
BeginsNoOther {V} Fits spelling =
    (v w : V) (x y : List ℕ) → Fits v → Fits w → spelling v ++ x ≡ spelling w ++ y → (v ≡ w) × (x ≡ y)
