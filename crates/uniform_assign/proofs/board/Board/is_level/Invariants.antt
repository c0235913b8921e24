use Rattle.std.proofs.Common.{None}
use Rattle.uniform_assign.specs.Moves.{IsNext}
use Rattle.uniform_assign.proofs.board.Board.is_level.Given as goal

-- none of the partitions that were looked at can move
abbrev pub invariant-loop-at : goal.invariant-loop-at
invariant-loop-at l = IsNext l.self l.draft l.at None
