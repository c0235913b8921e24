use Rattle.std.proofs.Common.{sym, subst}
use Rattle.group_reconcile.specs.Members.{IsIdOrder}
use Rattle.group_reconcile.proofs.Numbers.{IsIdOrder-empty}
use Rattle.group_reconcile.proofs.members.Members.new.Goals as goal

pub invariant_of-result : goal.invariant_of-result
invariant_of-result c = subst (IsIdOrder c.new.result) (sym c.new-2.ensures.items) (IsIdOrder-empty c.new.result c.new.ensures.empty)
