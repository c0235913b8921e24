use Rattle.std.proofs.Common.{◌≡◌, length}
use Rattle.uniform_assign.specs.Moves.{IsFirstAmong}
use Rattle.uniform_assign.specs.Piles.{IsHand}
use Rattle.uniform_assign.proofs.Piled.{IsInBelow}
use Rattle.uniform_assign.proofs.board.Board.first_move.Given as goal

-- the first of the piles that were looked at
abbrev pub invariant-loop-at : goal.invariant-loop-at
invariant-loop-at l =
    (length l.hand.items ≡ length l.initial.hand.items) × IsHand l.self l.draft l.from l.hand.items
    × IsFirstAmong l.self l.draft l.from (IsInBelow l.hand.items l.at) l.best
