use Rattle.std.proofs.Common.{◌≡◌, take}
use Rattle.range_assign.specs.Shares.{shares_in}
use Rattle.range_assign.proofs.spread.copies.Given as goal

abbrev pub invariant-loop-share : goal.invariant-loop-share
invariant-loop-share l = shares_in l.copies.items ≡ shares_in (take l.share-index l.shares)
