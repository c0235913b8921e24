use Rattle.std.proofs.Common.{map}
use Rattle.std.specs.Slice.Iter.{iter_rest}
use Rattle.group_types.specs.Sets.{in_order}
use Rattle.replica_snapshots.specs.Parts.{grant_of}
use Rattle.replica_snapshots.specs.Puttable.{CanPutGrant}
use Rattle.replica_snapshots.specs.Spelling.{grant_fields, FitsGrant}
use Rattle.replica_snapshots.proofs.Puts.{AreLeft}
use Rattle.replica_snapshots.proofs.member.put_each_grant.Given as goal

abbrev pub invariant-loop-p : goal.invariant-loop-p
invariant-loop-p l =
    AreLeft CanPutGrant FitsGrant grant_fields l.fn.out.items l.out.items (map (grant_of l.grants) (in_order l.set)) (map (grant_of l.grants) (iter_rest l.p-iterator))
