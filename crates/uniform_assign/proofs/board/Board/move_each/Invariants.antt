use Rattle.std.proofs.Common.{List}
use Rattle.group_types.specs.Owners.{Spread}
use Rattle.group_types.specs.Uniform.{AreMoves}
use Rattle.uniform_assign.specs.Drafts.{IsDraft, drawn_on}
use Rattle.uniform_assign.specs.Orders.{IsOrder}
use Rattle.uniform_assign.specs.Piles.{ArePiles}
use Rattle.uniform_assign.specs.CountSets.{AreCountSets}
use Rattle.uniform_assign.proofs.Counts.{squares}
use Rattle.uniform_assign.proofs.board.Board.move_each.Given as goal
use Rattle.uniform_assign.specs.Boards.{members_on}

-- the spread is that of some moves, the piles are those of its owners, and the orders are those of their counts
abbrev pub invariant-loop-piles : goal.invariant-loop-piles
invariant-loop-piles l =
    IsDraft l.self l.draft
    × ((steps : List Spread) × AreMoves (l.self).view.now (members_on l.self) (drawn_on l.self l.initial.draft.owners.items) steps (drawn_on l.self l.draft.owners.items))
    × ArePiles l.self l.draft l.piles × AreCountSets l.self l.draft.counts.items l.sets.items × IsOrder l.draft.counts.items l.order

-- each move makes the squares of the counts smaller together
abbrev pub decreases-loop-piles : goal.decreases-loop-piles
decreases-loop-piles l = squares l.draft.counts.items
