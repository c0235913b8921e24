use Rattle.std.proofs.Common.{◌-◌, length, sum_by}
use Rattle.uniform_assign.specs.Moves.{IsGiversLimit}
use Rattle.uniform_assign.specs.Piles.{ArePiles}
use Rattle.uniform_assign.proofs.Searched.{IsSearched}
use Rattle.uniform_assign.proofs.board.Board.move_in_order.Given as goal

-- those that were looked at are set aside, and nobody within the limit has anything to give
abbrev pub invariant-loop-from : goal.invariant-loop-from
invariant-loop-from l = ArePiles l.self l.draft l.piles × IsSearched l.self l.draft l.aside.items l.order × IsGiversLimit l.self l.draft.counts.items l.limit

-- each that is set aside owned something
abbrev pub decreases-loop-from : goal.decreases-loop-from
decreases-loop-from l = sum_by (λ n. n) l.draft.counts.items - length l.aside.items
