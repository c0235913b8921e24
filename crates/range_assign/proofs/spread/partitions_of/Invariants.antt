use Rattle.std.proofs.Common.{◌≡◌, ◌++◌, drop}
use Rattle.range_assign.specs.Shares.{partitions_in, shares_in}
use Rattle.range_assign.proofs.spread.partitions_of.Given as goal

-- the partitions so far, with those of the shares that are left, are those of all
abbrev pub invariant-loop-share : goal.invariant-loop-share
invariant-loop-share l = l.all.items ++ partitions_in (shares_in (drop l.share-index l.shares)) ≡ partitions_in (shares_in l.shares)
