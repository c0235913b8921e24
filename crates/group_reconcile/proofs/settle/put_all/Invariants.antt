use Rattle.std.proofs.Common.{◌≡◌}
use Rattle.std.specs.Slice.Iter.{iter_rest}
use Rattle.group_types.specs.Sets.{in_order}
use Rattle.std.specs.List.{AllByRecursion}
use Rattle.group_reconcile.specs.Tables.{HasRoom}
use Rattle.group_reconcile.specs.Settling.{cells_put}
use Rattle.group_reconcile.proofs.settle.put_all.Given as goal

-- the cells, once what is left is put too, are those of all
abbrev pub invariant-loop-p : goal.invariant-loop-p
invariant-loop-p l = record {
  cells : cells_put l.table.cells l.cell (iter_rest l.p-iterator) ≡ cells_put l.fn.table.cells l.cell (in_order l.next);
  sizes : l.table.sizes ≡ l.fn.table.sizes;
  room : AllByRecursion (HasRoom l.table.sizes) (iter_rest l.p-iterator);
}
