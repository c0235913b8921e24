use Rattle.std.proofs.Common.{◌≡◌, ◌<◌, ◌≤◌, ℕ, Some, slice_get}
use Rattle.group_types.specs.Partition.{Partitions}
use Rattle.group_types.specs.Sets.{size}
use Rattle.group_types.specs.Text.{Text}
use Rattle.range_assign.specs.Shares.{shares_in}
use Rattle.uniform_assign.proofs.stay.most_owned.Given as goal

abbrev pub invariant-loop-share : goal.invariant-loop-share
invariant-loop-share l = (k : ℕ) (s : Text × Partitions) → k < l.share-index → slice_get (shares_in l.shares) k ≡ Some s → size s.1 ≤ l.most
