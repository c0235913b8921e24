use Rattle.std.proofs.Common.{◌≡◌, length}
use Rattle.coord_shards.specs.Close.{events_to}
use Rattle.coord_shards.proofs.compare.next_to.Given as goal

abbrev pub invariant-loop-left : goal.invariant-loop-left
invariant-loop-left l = events_to l.shard l.sent ≡ events_to l.shard l.left

abbrev pub decreases-loop-left : goal.decreases-loop-left
decreases-loop-left l = length l.left
