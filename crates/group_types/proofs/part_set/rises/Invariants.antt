use Rattle.group_types.specs.Partition.{partition_cmp}
use Rattle.group_types.proofs.RisingLists.{RisesTo}
use Rattle.group_types.proofs.part_set.rises.Given as goal

abbrev pub invariant-loop-at : goal.invariant-loop-at
invariant-loop-at l = RisesTo partition_cmp l.parts l.at
