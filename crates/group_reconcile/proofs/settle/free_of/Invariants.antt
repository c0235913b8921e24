use Rattle.std.proofs.Common.{◌≡◌}
use Rattle.std.specs.Slice.Iter.{iter_rest}
use Rattle.group_types.specs.Sets.{in_order, nothing}
use Rattle.group_reconcile.specs.Settling.{taken_of}
use Rattle.group_reconcile.proofs.settle.free_of.Given as goal

-- what is taken, once what is left is taken too, is what is taken of all
abbrev pub invariant-loop-p : goal.invariant-loop-p
invariant-loop-p l = taken_of l.table.cells l.number l.next (iter_rest l.p-iterator) ≡ taken_of l.table.cells l.number nothing (in_order l.set)
