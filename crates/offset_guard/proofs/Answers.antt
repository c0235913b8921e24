-- The answer, partition by partition and topic by topic.
use Rattle.std.proofs.Common.{◌≡◌, List, map, Option, Some, None, refl}
use Rattle.kip_msgs.specs.declared.commit.CommitRequestPartition.{CommitRequestPartition}
use Rattle.kip_msgs.specs.declared.commit.CommitRequestTopic.{CommitRequestTopic}
use Rattle.kip_msgs.specs.Values.{CommitReplyPartitionValue, CommitReplyTopicValue}
use Rattle.kip_msgs.specs.Views.{commit_request_partition_value, commit_request_topic_value}
use Rattle.group_types.specs.declared.code.Code.{Code}
use Rattle.group_types.specs.Text.{Text}
use Rattle.group_types.specs.Topics.{Topics}
use Rattle.group_types.specs.Commit.{Commit, commit_reply}
use Rattle.group_epochs.specs.Request.{commitment_of}
use Rattle.offset_guard.specs.Requests.{topic_of}
use Rattle.offset_guard.specs.Replies.{code_by, reply_partition_value, reply_topic_value, topic_answer}

abbrev pub partition_answers : Option Code → Topics → Text → List CommitRequestPartition → List CommitReplyPartitionValue
partition_answers refusal image name ps =
    map reply_partition_value (map (λ x. (x.index, code_by refusal image name x)) (map commitment_of (map commit_request_partition_value ps)))

abbrev pub topic_answers : Option Code → Topics → List CommitRequestTopic → List CommitReplyTopicValue
topic_answers refusal image ts =
    map reply_topic_value (map (topic_answer refusal image) (map topic_of (map commit_request_topic_value ts)))

pub answers_by-topics : (refusal : Option Code) (c : Commit) (image : Topics) → commit_reply refusal c image ≡ map (topic_answer refusal image) c.topics
answers_by-topics None c image = refl
answers_by-topics (Some code) c image = refl
