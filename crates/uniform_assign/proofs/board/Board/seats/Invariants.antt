use Rattle.uniform_assign.specs.Seats.{AreSeats}
use Rattle.uniform_assign.proofs.board.Board.seats.Given as goal

abbrev pub invariant-loop-class : goal.invariant-loop-class
invariant-loop-class l = AreSeats l.self l.class l.seats.items
