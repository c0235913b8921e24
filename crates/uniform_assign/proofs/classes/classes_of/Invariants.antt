use Rattle.uniform_assign.proofs.Classed.{AreClassesTo}
use Rattle.uniform_assign.proofs.classes.classes_of.Given as goal

abbrev pub invariant-loop-list : goal.invariant-loop-list
invariant-loop-list l = AreClassesTo l.lists l.list-index l.classes.items l.takers.items
