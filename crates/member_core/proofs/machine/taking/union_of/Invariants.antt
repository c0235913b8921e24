use Rattle.std.proofs.Common.{◌≡◌, ◌++◌}
use Rattle.std.specs.Slice.Iter.{iter_rest}
use Rattle.group_types.specs.Sets.{in_order}
use Rattle.member_core.proofs.machine.taking.union_of.Given as goal

abbrev pub invariant-loop-p : goal.invariant-loop-p
invariant-loop-p l = in_order l.one ≡ l.all.items ++ iter_rest l.p-iterator

abbrev pub invariant-loop-p-2 : goal.invariant-loop-p-2
invariant-loop-p-2 l = in_order l.one ++ in_order l.other ≡ l.all.items ++ iter_rest l.p-iterator
