use Rattle.uniform_assign.proofs.Queued.{AreRenewed}
use Rattle.uniform_assign.proofs.board.Board.renew.Given as goal

abbrev pub invariant-loop-seat : goal.invariant-loop-seat
invariant-loop-seat l = AreRenewed l.self l.initial.sets.items l.sets.items l.seats l.member l.count l.seat-index
