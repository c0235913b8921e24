use Rattle.std.proofs.Common.{ap, sym, ◌∙◌}
use Rattle.group_types.specs.Sets.{size}
use Rattle.group_types.proofs.Orders.{partition_cmp_total}
use Rattle.group_types.proofs.ListSets.{size-of_list}
use Rattle.group_types.proofs.part_set.PartSet.len.Goals as goal

pub returns : goal.returns
returns c =
    c.len.ensures
    ∙ c.self.inside.parts.ok.0
    ∙ sym (size-of_list partition_cmp_total c.self.inside.parts.items c.self.invariant)
    ∙ ap size c.self.view_is
