use Rattle.std.proofs.Common.{◌≡◌, Ok, Err, sym, subst, Some}
use Rattle.std.specs.FinMap as finite
use Rattle.group_types.specs.Owners.{IsShare}
use Rattle.range_assign.specs.Shares.{IsPlace, shares_in}
use Rattle.range_assign.proofs.IdOrder.{IsShare-at, owns_nothing-at}
use Rattle.range_assign.proofs.spread.Spread.share_near.Goals as goal

pub returns-in-Ok : goal.returns-in-Ok
returns-in-Ok c =
    subst (λ spread. IsShare spread c.args.id.now c.index.result.now.set) c.self.view_is
    (IsShare-at c.self.inside.shares.items c.args.id.now c.in-Ok.place c.index.result.now c.self.invariant
    (subst (λ xs. IsPlace (shares_in xs) c.args.id.now (Ok c.in-Ok.place)) c.deref.ensures.value c.in-Ok.ensures) c.index.ensures)

pub returns-in-Err : goal.returns-in-Err
returns-in-Err c = λ p is.
    owns_nothing-at (shares_in c.self.inside.shares.items) c.args.id.now c.in-Err.field-0
    (subst (λ xs. IsPlace (shares_in xs) c.args.id.now (Err c.in-Err.field-0)) c.deref.ensures.value c.in-Err.ensures) p
    (subst (λ spread. finite.get spread p ≡ Some c.args.id.now) (sym c.self.view_is) is)
