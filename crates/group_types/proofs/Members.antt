-- For `grind`: what sets of partitions and of names have.
use Rattle.group_types.proofs.Orders.{partition_cmp-itself, partition_cmp_total, text_cmp-itself, text_cmp_total}
use Rattle.group_types.proofs.SetLemmas.{has-nothing, has-with_one, has-without, has-common, has-minus, has-union, has-of_list}

pub ruleset members = (has-nothing, has-with_one, has-without, has-common, has-minus, has-union, has-of_list, partition_cmp_total, partition_cmp-itself, text_cmp_total, text_cmp-itself)
