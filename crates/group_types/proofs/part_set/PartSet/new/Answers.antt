use Rattle.std.proofs.Common.{sym, subst}
use Rattle.std.specs.List.Sorted.{IsStrictlySortedBy}
use Rattle.group_types.specs.Partition.{partition_cmp}
use Rattle.group_types.proofs.part_set.PartSet.new.Goals as goal

pub invariant_of-result : goal.invariant_of-result
unfolding IsStrictlySortedBy
invariant_of-result c = subst (IsStrictlySortedBy partition_cmp) (sym c.new.ensures.items) tt
