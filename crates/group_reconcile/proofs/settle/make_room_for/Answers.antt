use Rattle.std.proofs.Common.{rules, ◌≡◌, ◌∷◌, ap, sym, subst, ◌∙◌}
use Rattle.std.specs.List.{list_all, list_any}
use Rattle.std.specs.Ordering.{eq_by_cmp}
use Rattle.std.specs.Slice.Iter.{iter_rest}
use Rattle.std.proofs.lemmas.List.{nil_from_length}
use Rattle.group_types.specs.Sets.{in_order}
use Rattle.group_types.specs.Partition.{partition_cmp}
use Rattle.group_reconcile.specs.Holders.{is_from_zero}
use Rattle.group_reconcile.proofs.AllOfSets.{both}
use Rattle.group_reconcile.proofs.FromZero.{from_zero}
use Rattle.group_reconcile.proofs.Rooms.{HaveRoomOrAreLeft, left-all, left-next, left-none}
use Rattle.group_reconcile.proofs.settle.make_room_for.Goals as goal

pub loop-p-init : goal.loop-p-init
loop-p-init c =
    let rest : iter_rest c.into_iter-p-iterator.result ≡ in_order c.args.next.now = ap iter_rest c.into_iter-p-iterator.ensures.into_iter_gives ∙ c.iter-p-items.ensures.rest in
    record {
      cells = search rules;
      indexes = ap (list_all (λ p. is_from_zero p.index)) rest ∙ c.requires;
      room = left-all c.args.table.now.sizes (in_order c.args.next.now) (iter_rest c.into_iter-p-iterator.result) (λ q there. ap (list_any (eq_by_cmp partition_cmp q)) rest ∙ there);
    }

pub make_room-requires : goal.make_room-requires
make_room-requires c =
    let steps : iter_rest c.loop-p.p-iterator ≡ c.in-Some.p.now ∷ iter_rest c.next.new.self = c.in-Some.ensures.steps in
    from_zero c.in-Some.p.now.index (both _ _ (sym (ap (list_all (λ p. is_from_zero p.index)) steps) ∙ c.loop-p.invariant.indexes)).0

pub loop-p-preserved : goal.loop-p-preserved
loop-p-preserved c =
    let steps : iter_rest c.loop-p.p-iterator ≡ c.in-Some.p.now ∷ iter_rest c.next.new.self = c.in-Some.ensures.steps in
    record {
      cells = c.make_room.ensures.cells ∙ c.loop-p.invariant.cells;
      indexes = (both _ _ (sym (ap (list_all (λ p. is_from_zero p.index)) steps) ∙ c.loop-p.invariant.indexes)).1;
      room =
          left-next c.loop-p.table.sizes c.make_room.new.self.sizes c.in-Some.p.now (iter_rest c.next.new.self) (in_order c.args.next.now)
          c.make_room.ensures.kept c.in_ok-make_room.ensures.room
          (subst (HaveRoomOrAreLeft c.loop-p.table.sizes (in_order c.args.next.now)) steps c.loop-p.invariant.room);
    }

pub returns-clause-room : goal.returns-clause-room
returns-clause-room c =
    left-none c.loop-p.table.sizes (in_order c.args.next.now)
    (subst (HaveRoomOrAreLeft c.loop-p.table.sizes (in_order c.args.next.now)) (nil_from_length (iter_rest c.loop-p.p-iterator) c.in-None.ensures.steps.0) c.loop-p.invariant.room)
