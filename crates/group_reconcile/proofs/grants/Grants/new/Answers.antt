use Rattle.std.proofs.Common.{sym, subst, ap, ◌∙◌}
use Rattle.group_reconcile.specs.Granted.{AreConsistent, holders_of}
use Rattle.group_reconcile.proofs.Granted.{AreConsistent-empty, holders_of-empty}
use Rattle.group_reconcile.proofs.grants.Grants.new.Goals as goal

pub invariant_of-result : goal.invariant_of-result
invariant_of-result c = subst (AreConsistent c.new-2.result) (sym c.new.ensures) (AreConsistent-empty c.new-2.result c.new-2.ensures)

pub returns : goal.returns
returns c = ap (holders_of c.new-2.result) c.new.ensures ∙ holders_of-empty c.new-2.result
