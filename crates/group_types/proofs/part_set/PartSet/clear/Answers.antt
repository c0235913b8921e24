use Rattle.std.proofs.Common.{sym, subst}
use Rattle.std.specs.List.Sorted.{IsStrictlySortedBy}
use Rattle.group_types.specs.Partition.{partition_cmp}
use Rattle.group_types.proofs.part_set.PartSet.clear.Goals as goal

pub invariant_of-self : goal.invariant_of-self
unfolding IsStrictlySortedBy
invariant_of-self c = subst (IsStrictlySortedBy partition_cmp) (sym c.clear.ensures.items) tt
