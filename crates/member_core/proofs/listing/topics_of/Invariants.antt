use Rattle.std.proofs.Common.{◌≡◌, ◌++◌, List}
use Rattle.std.specs.Slice.Iter.{iter_rest}
use Rattle.group_types.specs.declared.partition.Partition.{Partition}
use Rattle.group_types.specs.Sets.{in_order}
use Rattle.kip_msgs.specs.Topics.{topic_partitions_values}
use Rattle.member_core.specs.Listing.{listed}
use Rattle.member_core.proofs.listing.topics_of.Given as goal

abbrev pub invariant-loop-partition : goal.invariant-loop-partition
invariant-loop-partition l =
    (done : List Partition) × (in_order l.set ≡ done ++ iter_rest l.partition-iterator)
    × (topic_partitions_values l.topics.items ≡ listed done)
