use Rattle.std.proofs.Common.{◌≡◌, min, take}
use Rattle.std.specs.List.{sum_by}
use Rattle.kip_msgs.specs.TagCount.{tags_in_commit_topic}
use Rattle.kip_msgs.specs.Views.{commit_request_topic_value}
use Rattle.kip_msgs.proofs.tag_count.in_commit_topics.Given as goal

abbrev pub invariant-loop-topic : goal.invariant-loop-topic
invariant-loop-topic l = l.count ≡ min (sum_by (λ topic. tags_in_commit_topic (commit_request_topic_value topic)) (take l.topic-index l.topics)) 18446744073709551615
