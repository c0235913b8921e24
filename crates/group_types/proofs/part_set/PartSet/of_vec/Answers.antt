use Rattle.std.proofs.Common.{ap, ◌∙◌}
use Rattle.std.proofs.lemmas.List.Filters.{dedup_is}
use Rattle.std.proofs.lemmas.List.Kept.{IsStrictlySortedBy-dedup}
use Rattle.group_types.specs.Sets.{of_list}
use Rattle.group_types.proofs.Orders.{partition_cmp_total, partition_cmp-IsAntisymmetric, partition_eq-ties}
use Rattle.group_types.proofs.RisingLists.{of_list-dedup}
use Rattle.group_types.proofs.part_set.PartSet.of_vec.Goals as goal

pub invariant_of-result-2 : goal.invariant_of-result-2
invariant_of-result-2 c =
    rw (dedup_is _ _ _ c.dedup.ensures.filtered) (IsStrictlySortedBy-dedup partition_cmp_total partition_eq-ties _ c.sort_unstable.ensures.sorted)

pub returns : goal.returns
returns c =
    ap of_list (dedup_is _ _ _ c.dedup.ensures.filtered)
    ∙ of_list-dedup partition_cmp_total partition_cmp-IsAntisymmetric _ partition_eq-ties _ _ c.sort_unstable.ensures.permutation
