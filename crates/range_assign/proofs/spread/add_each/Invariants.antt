use Rattle.std.proofs.Common.{◌≡◌, ◌++◌}
use Rattle.std.specs.Slice.Iter.{iter_rest}
use Rattle.group_types.specs.Sets.{in_order}
use Rattle.range_assign.proofs.spread.add_each.Given as goal

-- the list so far, with what is left, is the list once all are added
abbrev pub invariant-loop-p : goal.invariant-loop-p
invariant-loop-p l = l.all.items ++ iter_rest l.p-iterator ≡ l.fn.all.items ++ in_order l.set
