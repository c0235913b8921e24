use Rattle.uniform_assign.proofs.Ranked.{AreRanksTo}
use Rattle.uniform_assign.proofs.count_set.ranks_of.Given as goal

-- the takers that were looked at have their ranks
abbrev pub invariant-loop-place : goal.invariant-loop-place
invariant-loop-place l = AreRanksTo l.counts l.takers l.place l.nodes.items
