-- How long an input may be. The limit is this program's own.
use Rattle.std.specs.Prelude.{ℕ, ◌<◌, List, length, Option, None, Some}

-- the most bytes of an input
abbrev pub LONGEST_INPUT : ℕ
LONGEST_INPUT = 67108864

-- the bytes are more than a run takes
abbrev pub IsLong : List ℕ → Type 0
IsLong bytes = LONGEST_INPUT < length bytes

-- the bytes are known, and more than a run takes
abbrev pub IsTooLong : Option (List ℕ) → Type 0
IsTooLong None = ⊥
IsTooLong (Some bytes) = IsLong bytes
