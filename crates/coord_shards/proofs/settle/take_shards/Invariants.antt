use Rattle.std.proofs.Common.{◌≡◌, ◌+◌, ◌*◌, ◌++◌, ◌≤◌, map, reverse, sum_by, vec_len, vec_capacity}
use Rattle.coord_shards.specs.Seat.{most_entries}
use Rattle.coord_shards.specs.Close.{entries_of}
use Rattle.coord_shards.proofs.settle.take_shards.Given as goal

abbrev pub invariant-loop-it : goal.invariant-loop-it
invariant-loop-it g l =
    record {
      shards : l.closed.items ++ reverse (map (λ h. h.shard) l.held.items) ≡ reverse (map (λ h. h.shard) l.initial.held.items);
      all : vec_len l.closed + vec_len l.held ≡ vec_len l.initial.held;
      room : vec_len l.initial.held ≤ vec_capacity l.closed;
      entries : l.entries.parts ≡ l.initial.entries.parts + 2 * vec_len l.closed;
      calls : l.calls.parts ≡ l.initial.calls.parts + vec_len l.closed;
      amounts : l.entries.amount + l.calls.amount
          ≡ l.initial.entries.amount + l.initial.calls.amount + vec_len l.closed * most_entries + sum_by entries_of l.closed.items;
    }

abbrev pub decreases-loop-it : goal.decreases-loop-it
decreases-loop-it g l = vec_len l.held
