use Rattle.std.proofs.Common.{◌≡◌, length}
use Rattle.benchmarks.proofs.group.seats_of.Given as goal

-- as many as there were rounds
abbrev pub invariant-loop-member : goal.invariant-loop-member
invariant-loop-member l = length l.seats.items ≡ l.member
