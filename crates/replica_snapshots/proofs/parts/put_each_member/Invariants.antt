use Rattle.std.proofs.Common.{map, drop}
use Rattle.std.specs.FinMap as finite
use Rattle.replica_snapshots.specs.Parts.{member_part}
use Rattle.replica_snapshots.specs.Puttable.{CanPutMember}
use Rattle.replica_snapshots.specs.Spelling.{member_fields, FitsMember}
use Rattle.replica_snapshots.proofs.Puts.{AreLeft}
use Rattle.replica_snapshots.proofs.parts.put_each_member.Given as goal

abbrev pub invariant-loop-rank : goal.invariant-loop-rank
invariant-loop-rank l =
    AreLeft CanPutMember FitsMember member_fields l.fn.out.items l.out.items (map (member_part l.grants l.target.owners) (finite.entries l.records.records))
    (map (member_part l.grants l.target.owners) (drop l.rank (finite.entries l.records.records)))
