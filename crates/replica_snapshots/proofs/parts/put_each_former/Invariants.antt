use Rattle.std.proofs.Common.{drop}
use Rattle.replica_snapshots.specs.Spelling.{former_fields, FitsFormer}
use Rattle.replica_snapshots.proofs.Puts.{AreLeft}
use Rattle.replica_snapshots.proofs.parts.put_each_former.Given as goal

abbrev pub invariant-loop-place : goal.invariant-loop-place
invariant-loop-place l = AreLeft FitsFormer FitsFormer former_fields l.fn.out.items l.out.items l.records.past (drop l.place l.records.past)
