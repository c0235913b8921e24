use Rattle.std.specs.Slice.Iter.{iter_rest}
use Rattle.group_types.specs.Sets.{in_order}
use Rattle.replica_snapshots.specs.Spelling.{partition_fields, FitsPartition}
use Rattle.replica_snapshots.proofs.Puts.{AreLeft}
use Rattle.replica_snapshots.proofs.fields.put_each_partition.Given as goal

abbrev pub invariant-loop-p : goal.invariant-loop-p
invariant-loop-p l = AreLeft FitsPartition FitsPartition partition_fields l.fn.out.items l.out.items (in_order l.set) (iter_rest l.p-iterator)
