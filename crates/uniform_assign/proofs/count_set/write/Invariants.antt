use Rattle.std.proofs.Common.{◌≡◌, ◌<◌, ◌+◌, ◌/◌, ℕ, List, Some, length, slice_get, slice_set}
use Rattle.uniform_assign.specs.CountSets.{AreRanks, IsTree}
use Rattle.uniform_assign.proofs.Ranked.{AreMatchesBut}
use Rattle.uniform_assign.proofs.count_set.write.Given as goal

-- all is a set of the new counts but for the node above this one
abbrev pub invariant-loop-node : goal.invariant-loop-node
invariant-loop-node l =
    (length l.nodes.items ≡ length (l.fn.nodes).items) × (0 < l.node) × (l.node < length l.nodes.items / 2 + length l.nodes.items / 2)
    × (slice_get l.nodes.items l.node ≡ Some l.rank)
    × ((counts : List ℕ) → IsTree counts (l.fn.nodes).items → AreRanks (slice_set counts l.place l.count) l.nodes.items × AreMatchesBut l.node (length counts) l.nodes.items)

abbrev pub decreases-loop-node : goal.decreases-loop-node
decreases-loop-node l = l.node
