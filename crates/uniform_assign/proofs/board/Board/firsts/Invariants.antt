use Rattle.uniform_assign.proofs.Located.{AreFirstsTo}
use Rattle.uniform_assign.proofs.board.Board.firsts.Given as goal

abbrev pub invariant-loop-at : goal.invariant-loop-at
invariant-loop-at l = AreFirstsTo (l.self).places.items l.at l.firsts
