use Rattle.uniform_assign.proofs.Queued.{AreCountSetsTo}
use Rattle.uniform_assign.proofs.board.Board.count_sets.Given as goal

abbrev pub invariant-loop-class : goal.invariant-loop-class
invariant-loop-class l = AreCountSetsTo l.self l.draft.counts.items l.class l.sets.items
