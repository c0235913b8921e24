use Rattle.std.proofs.Common.{◌≡◌, ◌+◌, length, min, take}
use Rattle.std.specs.List.{sum_by}
use Rattle.kip_msgs.proofs.tag_count.in_commit_topic.Given as goal

abbrev pub invariant-loop-partition : goal.invariant-loop-partition
invariant-loop-partition l = l.count ≡ min (length l.topic.tags + sum_by (λ partition. length partition.tags) (take l.partition-index l.partition-items)) 18446744073709551615
