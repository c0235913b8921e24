use Rattle.std.proofs.Common.{ℕ, List, sym, subst}
use Rattle.uniform_assign.specs.Orders.{IsOrder, IsOrderBut}
use Rattle.uniform_assign.proofs.board.Board.next_move.Goals as goal

pub put_back-requires : goal.put_back-requires
put_back-requires c =
    let order = c.move_in_order.new.order in
    let counts = c.args.draft.now.counts.items in
    subst (λ (xs : List ℕ). IsOrderBut xs c.deref.result.now order) (sym c.deref-2.ensures.value)
    (subst (λ (xs : List ℕ). IsOrderBut counts xs order) (sym c.deref.ensures.value) c.in_ok-next.ensures.order)

pub returns-clause-order : goal.returns-clause-order
returns-clause-order c = subst (λ (xs : List ℕ). IsOrder xs c.put_back.new.self) c.deref-2.ensures.value c.put_back.ensures
