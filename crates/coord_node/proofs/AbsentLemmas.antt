-- The answer to a commit of a group that isn't there, partition by partition and topic by topic.
use Rattle.std.proofs.Common.{List, map}
use Rattle.kip_msgs.specs.declared.commit.CommitRequestPartition.{CommitRequestPartition}
use Rattle.kip_msgs.specs.declared.commit.CommitRequestTopic.{CommitRequestTopic}
use Rattle.kip_msgs.specs.Values.{CommitReplyPartitionValue, CommitReplyTopicValue}
use Rattle.kip_msgs.specs.Views.{commit_request_partition_value, commit_request_topic_value}
use Rattle.group_types.specs.declared.code.Code.TheVariants.{GroupIdNotFound}
use Rattle.group_epochs.specs.Request.{commitment_of}
use Rattle.offset_guard.specs.Requests.{topic_of}
use Rattle.offset_guard.specs.Replies.{reply_partition_value, reply_topic_value}
use Rattle.coord_node.specs.Absent.{absent_topic}

abbrev pub partition_answers : List CommitRequestPartition → List CommitReplyPartitionValue
partition_answers ps =
    map reply_partition_value (map (λ x. (x.index, GroupIdNotFound)) (map commitment_of (map commit_request_partition_value ps)))

abbrev pub topic_answers : List CommitRequestTopic → List CommitReplyTopicValue
topic_answers ts =
    map reply_topic_value (map absent_topic (map topic_of (map commit_request_topic_value ts)))
