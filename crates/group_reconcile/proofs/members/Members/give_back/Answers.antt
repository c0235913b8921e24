use Rattle.std.proofs.Common.{sym, subst}
use Rattle.group_reconcile.specs.Members.{IsIdOrder}
use Rattle.group_reconcile.proofs.Emptied.{IsIdOrder-kept}
use Rattle.group_reconcile.proofs.members.Members.give_back.Goals as goal

pub invariant_of-self : goal.invariant_of-self
invariant_of-self c =
    subst (IsIdOrder c.shrink_to_fit.new.self) (sym c.shrink_to_fit-2.ensures.items)
    (IsIdOrder-kept c.self.inside.members c.shrink_to_fit.new.self c.shrink_to_fit.ensures.values c.self.inside.by_id.items c.self.invariant)
