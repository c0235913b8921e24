use Rattle.std.proofs.Common.{◌≡◌, ◌+◌, ◌*◌, vec_len}
use Rattle.coord_shards.specs.Limits.{MOST_SEATS}
use Rattle.coord_shards.specs.Seat.{most_entries}
use Rattle.coord_shards.proofs.shards.locked.Given as goal

abbrev pub invariant-loop-number : goal.invariant-loop-number
invariant-loop-number g l =
    record {
      book : l.book.total ≡ l.initial.book.total + l.number * most_entries;
      entries : (l.entries.parts + 2 * l.number ≡ 2 * l.shards) × (l.entries.amount ≡ 0);
      parts : l.calls.parts + l.number ≡ MOST_SEATS + l.shards;
      amount : l.calls.amount ≡ l.initial.calls.amount;
      made : vec_len l.made ≡ l.number;
    }
