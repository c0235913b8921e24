-- The message of an answer to a commit.
use Rattle.std.specs.Prelude.{ℤ, pos, [], List, map, Option, Some, None}
use Rattle.kip_msgs.specs.Values.{CommitReplyPartitionValue, CommitReplyTopicValue, CommitReplyValue}
use Rattle.group_types.specs.declared.code.Code.{Code}
use Rattle.group_types.specs.Code.{code_number}
use Rattle.group_types.specs.Text.{Text}
use Rattle.group_types.specs.Topics.{Topics}
use Rattle.group_types.specs.Commit.{Commitment, TopicCommitments, CommitReply, code_of_taken}

abbrev pub reply_partition_value : ℤ × Code → CommitReplyPartitionValue
reply_partition_value p = record { partition_index = p.0; error_code = code_number p.1; tags = [] }

abbrev pub reply_topic_value : Text × List (ℤ × Code) → CommitReplyTopicValue
reply_topic_value t = record { name = t.0; partitions = map reply_partition_value t.1; tags = [] }

-- Kafka protocol guide, "OffsetCommit Response v9": the codes in the request's order; nothing is throttled, and no field is tagged
abbrev pub commit_reply_value : CommitReply → CommitReplyValue
commit_reply_value reply = record { throttle_time_ms = pos 0; topics = map reply_topic_value reply; tags = [] }

-- ---- the answer part by part

-- the code of a partition, where the whole commit is refused with a code or taken
abbrev pub code_by : Option Code → Topics → Text → Commitment → Code
code_by (Some code) image name x = code
code_by None image name x = code_of_taken image name x

abbrev pub topic_answer : Option Code → Topics → TopicCommitments → Text × List (ℤ × Code)
topic_answer refusal image t = (t.name, map (λ x. (x.index, code_by refusal image t.name x)) t.partitions)
