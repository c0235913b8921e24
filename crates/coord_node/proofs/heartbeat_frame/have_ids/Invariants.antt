use Rattle.std.proofs.Common.{◌≡◌, ℕ, ◌<◌, length, get_or}
use Rattle.kip_msgs.specs.declared.heartbeat.TopicPartitions.{TopicPartitions}
use Rattle.coord_node.proofs.heartbeat_frame.have_ids.Given as goal

abbrev pub invariant-loop-topic : goal.invariant-loop-topic
invariant-loop-topic l =
    (k : ℕ) (d : TopicPartitions) → k < l.topic-index → length (get_or l.topics k d).topic_id ≡ 16
