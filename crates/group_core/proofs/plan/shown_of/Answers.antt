use Rattle.std.proofs.Common.{◌≡◌, ◌∙◌}
use Rattle.std.proofs.lemmas.Result.{IfOk-weaker}
use Rattle.group_types.specs.Sets.{common}
use Rattle.group_types.specs.Group.{held, wanted}
use Rattle.group_types.specs.Settle.{grants_after, may_settle}
use Rattle.group_reconcile.specs.Holders.{pairs}
use Rattle.group_core.specs.Stages.{shown_then}
use Rattle.group_core.proofs.plan.shown_of.Goals as goal

pub returns : goal.returns
returns c =
    let h = pairs c.args.state.now.grants in
    let s = c.args.state.now in
    let part : c.of-wanted.result.partitions ≡ wanted (Rattle.group_core.specs.Stages.target_then s c.args.renewal.now).owners c.args.draft.now.member.id =
    c.of-wanted.ensures.partitions ∙ (λ i. wanted (c.target_of.ensures i).owners (c.as_str-id.ensures.value i)) in
    IfOk-weaker c.shown_after.result _ (λ shown. shown ≡ shown_then s c.args.draft.now c.args.renewal.now c.args.owned.now)
    (λ shown is. is ∙ (λ i. common (held (grants_after (may_settle h (c.as_str-id.ensures.value i) (part i) (c.as_ref.ensures.value i)) h (c.as_str-id.ensures.value i) (part i)) (c.as_str-id.ensures.value i)) (part i)))
    c.shown_after.ensures
