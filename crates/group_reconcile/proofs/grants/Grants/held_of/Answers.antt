use Rattle.std.proofs.Common.{ap, ◌∙◌}
use Rattle.group_types.specs.Sets.{common}
use Rattle.group_types.specs.Group.{held}
use Rattle.group_reconcile.specs.Holders.{pairs}
use Rattle.group_reconcile.proofs.Shown.{common-nothing, common-turned}
use Rattle.group_reconcile.proofs.grants.Grants.held_of.Goals as goal

pub returns-in_default : goal.returns-in_default
returns-in_default c =
    let target = c.args.target.now.partitions in
    c.new.ensures ∙ common-nothing target ∙ ap (λ s. common s target) c.in_default.ensures

pub returns : goal.returns
returns c =
    let target = c.args.target.now.partitions in
    c.retain_common.ensures
    ∙ (λ i. common (c.in_ok-set.ensures i) (c.in-Some.ensures i))
    ∙ common-turned target (held (pairs c.args.self.now) c.args.member.now)
