use Rattle.std.proofs.Common.{not, ap, ◌∙◌}
use Rattle.std.specs.List.{list_any}
use Rattle.std.proofs.lemmas.Bool.Decides.{same_from_decides}
use Rattle.group_types.specs.Sets.{are_disjoint, has}
use Rattle.group_types.proofs.Orders.{partition_cmp_total, partition_cmp-IsAntisymmetric}
use Rattle.group_types.proofs.RisingLists.{disjoint_list}
use Rattle.group_types.proofs.SetLemmas.{are_disjoint-Decides}
use Rattle.group_types.proofs.part_set.PartSet.is_disjoint.Goals as goal

pub returns-clause-disjoint : goal.returns-clause-disjoint
returns-clause-disjoint c =
    let parts = c.self.inside.parts.items in
    rw (← c.self.view_is) (disjoint_list partition_cmp_total partition_cmp-IsAntisymmetric parts c.args.other.now (not c.has_any.result)
    (ap not (c.has_any.ensures ∙ ap (list_any (has c.args.other.now)) c.deref.ensures.value)))

pub returns-clause-value : goal.returns-clause-value
returns-clause-value c =
    same_from_decides (not c.has_any.result) (are_disjoint c.args.self.now c.args.other.now) (returns-clause-disjoint c) (are_disjoint-Decides c.args.self.now c.args.other.now)
