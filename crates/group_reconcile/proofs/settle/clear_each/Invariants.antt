use Rattle.std.proofs.Common.{◌≡◌}
use Rattle.std.specs.Slice.Iter.{iter_rest}
use Rattle.group_types.specs.Sets.{in_order}
use Rattle.group_reconcile.specs.Settling.{cells_without}
use Rattle.group_reconcile.proofs.settle.clear_each.Given as goal

-- the cells, once what is left is cleared too, are those of all
abbrev pub invariant-loop-p : goal.invariant-loop-p
invariant-loop-p l = cells_without l.table.cells (iter_rest l.p-iterator) ≡ cells_without l.fn.table.cells (in_order l.parts)
