use Rattle.uniform_assign.proofs.Taken.{AddsTakerTo}
use Rattle.uniform_assign.proofs.takers.add_taker.Given as goal

abbrev pub invariant-loop-t : goal.invariant-loop-t
invariant-loop-t l = AddsTakerTo l.marks l.member l.t l.fn.all.items l.all.items
