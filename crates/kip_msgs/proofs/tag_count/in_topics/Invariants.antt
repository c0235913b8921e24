use Rattle.std.proofs.Common.{◌≡◌, length, min, take}
use Rattle.std.specs.List.{sum_by}
use Rattle.kip_msgs.proofs.tag_count.in_topics.Given as goal

abbrev pub invariant-loop-topic : goal.invariant-loop-topic
invariant-loop-topic l = l.count ≡ min (sum_by (λ topic. length topic.tags) (take l.topic-index l.topic-items)) 18446744073709551615
