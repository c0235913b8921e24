-- What contracts see of the partitions of a topic.
use Rattle.std.specs.Prelude.{List, map}
use Rattle.kip_msgs.specs.Values.{TopicPartitionsValue}
use Rattle.kip_msgs.specs.declared.heartbeat.TopicPartitions.{TopicPartitions}

-- Partitions of a topic as their value.
abbrev pub topic_partitions_value : TopicPartitions → TopicPartitionsValue
topic_partitions_value topic = record { topic_id = topic.topic_id; partitions = topic.partitions; tags = topic.tags }

-- The same of each in a list.
abbrev pub topic_partitions_values : List TopicPartitions → List TopicPartitionsValue
topic_partitions_values topics = map topic_partitions_value topics
