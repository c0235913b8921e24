use Rattle.std.proofs.Common.{sym, subst, ap, ◌∙◌}
use Rattle.group_reconcile.specs.Granted.{AreConsistent, holders_of}
use Rattle.group_reconcile.proofs.Emptied.{holders_of-nobody}
use Rattle.group_reconcile.proofs.Granted.{AreConsistent-empty, holders_of-empty}
use Rattle.group_reconcile.proofs.grants.Grants.give_back.Goals as goal

pub invariant_of-self : goal.invariant_of-self
invariant_of-self c =
    subst (AreConsistent c.give_back.new.self) (sym c.clear_all.ensures)
    (AreConsistent-empty c.give_back.new.self (λ k. c.give_back.ensures.members k ∙ c.give_back.ensures.none c.if-give_back.true k))

pub returns-then-give_back : goal.returns-then-give_back
returns-then-give_back c =
    ap (holders_of c.give_back.new.self) c.clear_all.ensures
    ∙ holders_of-empty c.give_back.new.self
    ∙ sym (holders_of-nobody c.self.inside.members (c.give_back.ensures.none c.if-give_back.true) c.self.inside.table.cells c.self.invariant)
    ∙ c.self.view_is
