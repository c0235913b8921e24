use Rattle.std.proofs.Common.{sym, ap, subst, ◌∙◌}
use Rattle.range_assign.specs.Shares.{AreShares, shares_in, spread_of}
use Rattle.range_assign.proofs.IdOrder.{AreShares-of_order}
use Rattle.range_assign.proofs.spread.Spread.shares.Goals as goal

pub returns-clause-spread : goal.returns-clause-spread
returns-clause-spread c = ap (λ xs. spread_of (shares_in xs)) c.as_slice.ensures.value ∙ c.self.view_is

pub returns-clause-apart : goal.returns-clause-apart
returns-clause-apart c = subst (λ xs. AreShares (shares_in xs)) (sym c.as_slice.ensures.value) (AreShares-of_order (shares_in c.self.inside.shares.items) c.self.invariant)
