use Rattle.std.proofs.Common.{◌≡◌}
use Rattle.std.specs.Slice.Iter.{iter_rest}
use Rattle.group_types.specs.Sets.{in_order}
use Rattle.group_reconcile.specs.Settling.{cells_cleared}
use Rattle.group_reconcile.proofs.settle.clear_all.Given as goal

-- the cells, once what is left is cleared too, are those of all
abbrev pub invariant-loop-p : goal.invariant-loop-p
invariant-loop-p l = record {
  cells : cells_cleared l.table.cells l.next (iter_rest l.p-iterator) ≡ cells_cleared l.fn.table.cells l.next (in_order l.parts);
  sizes : l.table.sizes ≡ l.fn.table.sizes;
}
