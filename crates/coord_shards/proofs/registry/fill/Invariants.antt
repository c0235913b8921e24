use Rattle.std.proofs.Common.{◌≡◌, ◌+◌, ◌*◌}
use Rattle.coord_shards.specs.Seat.{most_calls}
use Rattle.coord_shards.proofs.registry.fill.Given as goal

abbrev pub invariant-loop-seat : goal.invariant-loop-seat
invariant-loop-seat g l =
    record {
      total : l.book.total ≡ l.initial.book.total + l._seat * most_calls;
      amount : l.share.amount ≡ l.initial.share.amount + l._seat * most_calls;
      parts : l.share.parts ≡ l.initial.share.parts;
    }
