use Rattle.std.proofs.Common.{◌≡◌, length}
use Rattle.benchmarks.proofs.beats.indexes.Given as goal

-- as many as there were rounds
abbrev pub invariant-loop-partition : goal.invariant-loop-partition
invariant-loop-partition l = length l.indexes ≡ l.partition
