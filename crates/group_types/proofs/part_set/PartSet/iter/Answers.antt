use Rattle.std.proofs.Common.{ap, sym, ◌∙◌}
use Rattle.group_types.specs.Sets.{in_order}
use Rattle.group_types.proofs.Orders.{partition_cmp_total}
use Rattle.group_types.proofs.ListSets.{in_order-of_list}
use Rattle.group_types.proofs.part_set.PartSet.iter.Goals as goal

pub returns-clause-rest : goal.returns-clause-rest
returns-clause-rest c =
    c.iter.ensures.rest
    ∙ c.deref.ensures.value
    ∙ sym (in_order-of_list partition_cmp_total c.self.inside.parts.items c.self.invariant)
    ∙ ap in_order c.self.view_is
