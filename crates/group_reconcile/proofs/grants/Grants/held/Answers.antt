use Rattle.std.proofs.Common.{ap, ◌∙◌}
use Rattle.group_types.specs.Group.{held}
use Rattle.group_reconcile.specs.Holders.{pairs}
use Rattle.group_reconcile.proofs.Granted.{held-number}
use Rattle.group_reconcile.proofs.grants.Grants.held.Goals as goal

pub returns : goal.returns
returns c =
    c.parts_of.ensures
    ∙ held-number c.self.inside.members c.self.inside.table.cells c.self.invariant c.args.member.now _ c.find.ensures
    ∙ ap (λ h. held (pairs h) c.args.member.now) c.self.view_is
