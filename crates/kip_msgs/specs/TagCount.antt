-- How many tagged fields a request has (KIP-482), in its header, its message and the structures of its arrays.
use Rattle.std.specs.Prelude.{ℕ, ◌+◌, List, length, Option, Some, None}
use Rattle.std.specs.List.{sum_by}
use Rattle.kip_msgs.specs.Values.{TopicPartitionsValue, CommitRequestTopicValue, RequestValue, heartbeat_request, commit_request}

-- in the topics of a heartbeat
abbrev pub tags_in_topics : Option (List TopicPartitionsValue) → ℕ
tags_in_topics None = 0
tags_in_topics (Some topics) = sum_by (λ topic. length topic.tags) topics

-- in a topic of a commit and its partitions
abbrev pub tags_in_commit_topic : CommitRequestTopicValue → ℕ
tags_in_commit_topic topic = length topic.tags + sum_by (λ partition. length partition.tags) topic.partitions

-- in all of a request
abbrev pub tags_in : RequestValue → ℕ
tags_in (heartbeat_request header v) = length header.tags + (length v.tags + tags_in_topics v.topic_partitions)
tags_in (commit_request header v) = length header.tags + (length v.tags + sum_by tags_in_commit_topic v.topics)
