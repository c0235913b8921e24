use Rattle.uniform_assign.specs.Marks.{IsFull}
use Rattle.uniform_assign.proofs.lawful.is_full.Given as goal

abbrev pub invariant-loop-at : goal.invariant-loop-at
invariant-loop-at l = IsFull l.marks l.at
