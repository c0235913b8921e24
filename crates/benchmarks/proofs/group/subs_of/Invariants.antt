use Rattle.std.proofs.Common.{◌≡◌, length}
use Rattle.benchmarks.proofs.group.subs_of.Given as goal

-- as many as there were rounds
abbrev pub invariant-loop-seat : goal.invariant-loop-seat
invariant-loop-seat l = length l.list.items ≡ l.seat-index
