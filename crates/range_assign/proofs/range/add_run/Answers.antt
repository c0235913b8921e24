use Rattle.std.proofs.Common.{◌≡◌, ◌+◌, arith, subst, sym, ap, ◌∙◌}
use Rattle.std.specs.Int.{w32}
use Rattle.std.proofs.lemmas.Int.{to_z_pos}
use Rattle.group_types.specs.Sets.{of_list, with_one}
use Rattle.group_types.proofs.Orders.{partition_cmp_total, partition_cmp-IsAntisymmetric}
use Rattle.group_types.proofs.RisingLists.{of_list-push}
use Rattle.range_assign.specs.Turns.{AddsRun}
use Rattle.range_assign.proofs.Turns.{AddsRun-none, AddsRun-more}
use Rattle.range_assign.proofs.range.add_run.Goals as goal

pub loop-index-init : goal.loop-index-init
loop-index-init c = AddsRun-none (of_list c.args.parts.now.items) c.args.topic c.args.first

pub loop-index-preserved : goal.loop-index-preserved
loop-index-preserved c =
    let old = of_list c.args.parts.now.items in
    let set = of_list c.loop-index.parts.items in
    subst (λ new. AddsRun old new c.args.topic c.args.first (c.loop-index.index + 1))
    (sym (ap of_list c.in_ok-push.ensures.items
    ∙ of_list-push partition_cmp_total partition_cmp-IsAntisymmetric c.loop-index.parts.items _
    ∙ ap (λ z. with_one set record { topic = c.args.topic; index = z }) (to_z_pos w32 c.loop-index.index (omega arith))))
    (AddsRun-more old set c.args.topic c.args.first c.loop-index.index (omega arith) c.loop-index.invariant)

pub returns : goal.returns
returns c =
    subst (AddsRun (of_list c.args.parts.now.items) (of_list c.loop-index.parts.items) c.args.topic c.args.first) (let last : c.loop-index.index ≡ c.args.end = omega arith in last) c.loop-index.invariant
