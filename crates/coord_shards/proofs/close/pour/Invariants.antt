use Rattle.std.proofs.Common.{◌≡◌, ◌+◌, ◌≤◌, vec_len, vec_capacity}
use Rattle.coord_shards.proofs.close.pour.Given as goal

abbrev pub invariant-loop-element : goal.invariant-loop-element
invariant-loop-element g l =
    record {
      callable : goal.F-IsAlwaysCallable g l.change;
      all : vec_len l.to + vec_len l.from ≡ vec_len l.initial.from;
      room : vec_len l.initial.from ≤ vec_capacity l.to;
      kept : vec_len l.initial.from ≤ vec_capacity l.from;
    }

abbrev pub decreases-loop-element : goal.decreases-loop-element
decreases-loop-element g l = vec_len l.from
