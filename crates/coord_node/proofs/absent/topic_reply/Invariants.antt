use Rattle.std.proofs.Common.{◌≡◌, ◌++◌, map, drop}
use Rattle.kip_msgs.specs.Views.{commit_reply_partition_value}
use Rattle.coord_node.proofs.AbsentLemmas.{partition_answers}
use Rattle.coord_node.proofs.absent.topic_reply.Given as goal

abbrev pub invariant-loop-partition : goal.invariant-loop-partition
invariant-loop-partition l =
    map commit_reply_partition_value l.partitions.items ++ partition_answers (drop l.partition-index l.partition-items) ≡ partition_answers l.partition-items
