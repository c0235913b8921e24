-- What a request commits, topic by topic.
use Rattle.std.specs.Prelude.{ℕ, map}
use Rattle.std.specs.Option.{option_map_or}
use Rattle.std.specs.FinMap as finite
use Rattle.group_types.specs.Text.{Text}
use Rattle.group_types.specs.Topics.{Topics}
use Rattle.kip_msgs.specs.Values.{CommitRequestTopicValue}
use Rattle.group_types.specs.Commit.{TopicCommitments}
use Rattle.group_epochs.specs.Request.{commitment_of}

-- Kafka protocol guide, "OffsetCommit Request v9", topics
abbrev pub topic_of : CommitRequestTopicValue → TopicCommitments
topic_of t = record { name = t.name; partitions = map commitment_of t.partitions }

-- how many partitions the topic of a name has: none where there is no such topic
abbrev pub partitions_in : Topics → Text → ℕ
partitions_in image name = option_map_or (λ t. t.count) (finite.get image name) 0
