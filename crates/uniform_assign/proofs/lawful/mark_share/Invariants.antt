use Rattle.std.specs.Slice.Iter.{iter_rest}
use Rattle.uniform_assign.proofs.Staying.{IsMarking}
use Rattle.uniform_assign.proofs.lawful.mark_share.Given as goal

-- what is left of the set is still to be marked
abbrev pub invariant-loop-partition : goal.invariant-loop-partition
invariant-loop-partition l = IsMarking l.topics l.named l.set (iter_rest l.partition-iterator) l.initial.marks.items l.marks.items
