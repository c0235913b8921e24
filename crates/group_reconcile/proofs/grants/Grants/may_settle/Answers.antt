use Rattle.std.proofs.Common.{sym, ap, ◌∙◌}
use Rattle.std.specs.Option.{option_copied}
use Rattle.group_types.specs.Sets.{minus}
use Rattle.group_types.specs.Settle.{may_move}
use Rattle.group_reconcile.proofs.Offering.{may_move-nothing}
use Rattle.group_reconcile.proofs.grants.Grants.may_settle.Goals as goal

pub returns-in-None : goal.returns-in-None
returns-in-None c =
    let target = c.args.target.now.partitions in
    let owned = option_copied c.args.owned in
    sym (ap (λ parts. may_move (minus parts target) owned) (sym c.in-None.ensures) ∙ may_move-nothing target owned)
