use Rattle.std.proofs.Common.{ap, sym, ◌∙◌}
use Rattle.std.specs.List.{list_any}
use Rattle.std.specs.Ordering.{eq_by_cmp}
use Rattle.group_types.specs.Partition.{partition_cmp}
use Rattle.group_types.specs.Sets.{has}
use Rattle.group_types.proofs.Orders.{partition_cmp_total}
use Rattle.group_types.proofs.SetLemmas.{has-of_list}
use Rattle.group_types.proofs.part_set.PartSet.contains.Goals as goal

pub returns : goal.returns
returns c =
    c.is_ok.ensures.value
    ∙ c.place_of.ensures.there
    ∙ ap (list_any (eq_by_cmp partition_cmp c.args.p.now)) c.deref.ensures.value
    ∙ sym (has-of_list partition_cmp_total c.self.inside.parts.items c.args.p.now)
    ∙ ap (λ s. has s c.args.p.now) c.self.view_is
