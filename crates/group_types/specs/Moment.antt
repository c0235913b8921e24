-- Moments: milliseconds in a u64.
use Rattle.std.specs.Prelude.{ℕ, ◌+◌, ◌-◌, ◌^◌, min}

-- the sum of two moments, or the greatest moment where that is past it (ours)
abbrev pub saturated_sum : ℕ → ℕ → ℕ
saturated_sum a b = min (a + b) (2 ^ 64 - 1)
