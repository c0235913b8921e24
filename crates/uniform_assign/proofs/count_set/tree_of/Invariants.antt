use Rattle.std.proofs.Common.{◌≤◌, length}
use Rattle.uniform_assign.specs.CountSets.{AreRanks, counts_of}
use Rattle.uniform_assign.proofs.Ranked.{AreMatchesFrom}
use Rattle.uniform_assign.proofs.count_set.tree_of.Given as goal

-- the nodes from this one on are written
abbrev pub invariant-loop-node : goal.invariant-loop-node
invariant-loop-node l =
    (l.node ≤ length l.takers) × AreRanks (counts_of l.counts l.takers) l.nodes.items
    × AreMatchesFrom l.node (length (counts_of l.counts l.takers)) l.nodes.items

abbrev pub decreases-loop-node : goal.decreases-loop-node
decreases-loop-node l = l.node
