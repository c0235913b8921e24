-- Moments are milliseconds in 64 bits (ours): none is past 2^64 - 1.
use Rattle.std.specs.Prelude.{◌≡◌, ℕ, ◌+◌, ◌≤◌, ◌<◌}
use Rattle.group_types.specs.Moment.{saturated_sum}

pub record DeadlinesSaturate : Type 0 where
  pub sums : (a b : ℕ) → a + b ≤ 18446744073709551615 → saturated_sum a b ≡ a + b
  pub greatest : (a b : ℕ) → 18446744073709551615 < a + b → saturated_sum a b ≡ 18446744073709551615
