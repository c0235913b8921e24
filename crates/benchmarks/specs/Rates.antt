-- Numbers of a table, of repetitions and the nanoseconds that they took together. Both are at least one
-- where they divide, and no number passes the largest of 64 bits.
use Rattle.std.specs.Prelude.{ℕ, ◌*◌, ◌/◌, ◌-◌, ◌^◌, min, max}

-- The largest number of 64 bits at most.
abbrev pub in_64_bits : ℕ → ℕ
in_64_bits n = min n (2 ^ 64 - 1)

-- Tenths of a nanosecond that one of the repetitions took.
abbrev pub tenths_each : ℕ → ℕ → ℕ
tenths_each repetitions nanoseconds = in_64_bits (nanoseconds * 10) / max repetitions 1

-- How many a second.
abbrev pub each_second : ℕ → ℕ → ℕ
each_second repetitions nanoseconds = in_64_bits (repetitions * 1000000000) / max nanoseconds 1
