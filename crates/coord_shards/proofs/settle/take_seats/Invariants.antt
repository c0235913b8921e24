use Rattle.std.proofs.Common.{◌≡◌, ◌+◌, ◌*◌, sum_by, vec_len}
use Rattle.coord_shards.specs.Seat.{calls_of, most_calls}
use Rattle.coord_shards.proofs.settle.take_seats.Given as goal

abbrev pub invariant-loop-seat : goal.invariant-loop-seat
invariant-loop-seat g l =
    record {
      parts : l.calls.parts + vec_len l.seats ≡ l.initial.calls.parts + vec_len l.initial.seats;
      amount : l.calls.amount + vec_len l.seats * most_calls + sum_by calls_of l.initial.seats.items
          ≡ l.initial.calls.amount + vec_len l.initial.seats * most_calls + sum_by calls_of l.seats.items;
    }

abbrev pub decreases-loop-seat : goal.decreases-loop-seat
decreases-loop-seat g l = vec_len l.seats
