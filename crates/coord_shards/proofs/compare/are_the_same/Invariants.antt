use Rattle.std.proofs.Common.{◌≡◌, ◌↔◌, length}
use Rattle.coord_shards.specs.Close.{events_from, events_to}
use Rattle.coord_shards.proofs.compare.are_the_same.Given as goal

abbrev pub invariant-loop-entries : goal.invariant-loop-entries
invariant-loop-entries l =
    (events_from l.seat l.fn.entries ≡ events_to l.shard l.fn.sent) ↔ (events_from l.seat l.entries ≡ events_to l.shard l.sent)

abbrev pub decreases-loop-entries : goal.decreases-loop-entries
decreases-loop-entries l = length l.entries
