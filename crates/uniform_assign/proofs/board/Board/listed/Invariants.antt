use Rattle.uniform_assign.specs.Piles.{AreListed}
use Rattle.uniform_assign.proofs.board.Board.listed.Given as goal

-- the places that were looked at are in their owners' lists
abbrev pub invariant-loop-at : goal.invariant-loop-at
invariant-loop-at l = AreListed l.self l.draft l.at l.listed.items
