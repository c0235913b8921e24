use Rattle.std.proofs.Common.{◌≡◌, ◌+◌, ◌<◌, ◌≤◌, ℕ, Bool, List, cond, false, get_or, length}
use Rattle.range_assign.proofs.range.count_marks.Given as goal

-- the first n of the counts are counted
pub record AreCounted (old : List ℕ) (marks : List Bool) (n : ℕ) (counts : List ℕ) : Type 0 where
  pub as_many : length counts ≡ length old
  pub counted : (t : ℕ) → t < n → get_or counts t 0 ≡ get_or old t 0 + cond (get_or marks t false) 1 0
  pub kept : (t : ℕ) → n ≤ t → get_or counts t 0 ≡ get_or old t 0

abbrev pub invariant-loop-t : goal.invariant-loop-t
invariant-loop-t l = AreCounted l.fn.counts.items l.marks l.t l.counts.items
