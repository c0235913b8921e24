use Rattle.std.proofs.Common.{◌≡◌, ℕ, false}
use Rattle.uniform_assign.specs.Marks.{is_marked}
use Rattle.uniform_assign.proofs.lawful.no_marks.Given as goal

abbrev pub invariant-loop-topic : goal.invariant-loop-topic
invariant-loop-topic l = (t i : ℕ) → is_marked l.marks.items t i ≡ false
