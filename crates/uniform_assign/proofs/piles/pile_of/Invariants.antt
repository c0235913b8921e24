use Rattle.std.proofs.Common.{◌≤◌, length}
use Rattle.uniform_assign.proofs.piles.pile_of.Given as goal

abbrev pub invariant-loop-at : goal.invariant-loop-at
invariant-loop-at l = l.at ≤ length l.hand

abbrev pub decreases-loop-at : goal.decreases-loop-at
decreases-loop-at l = l.at
