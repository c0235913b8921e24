use Rattle.std.proofs.Common.{rules, tests, not, ◌∙◌}
use Rattle.std.proofs.lemmas.Iterator.{YieldsList-from_slice}
use Rattle.std.proofs.lemmas.Iterator.Consumers.{YieldsList-from_filter, count_from_yields_List}
use Rattle.group_types.specs.Sets.{has, in_order}
use Rattle.group_types.proofs.Orders.{partition_cmp_total, partition_cmp-IsAntisymmetric}
use Rattle.member_core.proofs.Beside.{size-minus}
use Rattle.member_core.proofs.machine.taking.count_beside.Goals as goal

pub returns : goal.returns
returns c =
    count_from_yields_List c.filter.result _ c.count.ensures.ran
    (YieldsList-from_filter _ (λ x. not (has c.args.other.now x)) (YieldsList-from_slice (in_order c.args.one.now) cc) c.filter.ensures.closure (λ x r q k. search (rules, tests)))
    ∙ size-minus partition_cmp_total partition_cmp-IsAntisymmetric c.args.one.now c.args.other.now
