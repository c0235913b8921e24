use Rattle.std.proofs.Common.{◌≡◌, ◌++◌, map, drop}
use Rattle.kip_msgs.specs.Views.{commit_reply_partition_value}
use Rattle.offset_guard.proofs.Answers.{partition_answers}
use Rattle.offset_guard.proofs.reply.topic_reply.Given as goal

abbrev pub invariant-loop-partition : goal.invariant-loop-partition
invariant-loop-partition l =
    map commit_reply_partition_value l.partitions.items ++ partition_answers l.refusal l.image l.topic.name.now (drop l.partition-index l.partition-items)
    ≡ partition_answers l.refusal l.image l.topic.name.now l.partition-items
