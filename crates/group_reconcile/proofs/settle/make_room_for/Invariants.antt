use Rattle.std.proofs.Common.{◌≡◌, IsTrue}
use Rattle.std.specs.List.{list_all}
use Rattle.std.specs.Slice.Iter.{iter_rest}
use Rattle.group_types.specs.Sets.{in_order}
use Rattle.group_reconcile.specs.Holders.{is_from_zero}
use Rattle.group_reconcile.proofs.Rooms.{HaveRoomOrAreLeft}
use Rattle.group_reconcile.proofs.settle.make_room_for.Given as goal

-- no cell has changed, what has no room yet is left, and no index that is left is below 0
abbrev pub invariant-loop-p : goal.invariant-loop-p
invariant-loop-p l = record {
  cells : l.table.cells ≡ l.fn.table.cells;
  indexes : IsTrue (list_all (λ p. is_from_zero p.index) (iter_rest l.p-iterator));
  room : HaveRoomOrAreLeft l.table.sizes (in_order l.next) (iter_rest l.p-iterator);
}
