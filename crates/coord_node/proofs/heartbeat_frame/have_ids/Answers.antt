use Rattle.std.proofs.Common.{arith}
use Rattle.std.proofs.lemmas.List.Elements.{All-map}
use Rattle.flex_wire.specs.Spelling.{FitsUuid}
use Rattle.kip_msgs.specs.Values.{TopicPartitionsValue}
use Rattle.kip_msgs.specs.Topics.{topic_partitions_value}
use Rattle.coord_node.proofs.heartbeat_frame.have_ids.Goals as goal

pub returns : goal.returns
returns c =
    All-map (λ (t : TopicPartitionsValue). FitsUuid t.topic_id) topic_partitions_value c.args.topics.now
    (λ k d h. c.loop-topic.invariant k d (omega (arith, c.loop-topic-test.false)))
