-- The messages as their values.
use Rattle.std.specs.Prelude.{map, option_map}
use Rattle.std.specs.Option.{option_copied}
use Rattle.kip_msgs.specs.Values.{RequestHeaderValue, ResponseHeaderValue, HeartbeatRequestValue, AssignmentValue, HeartbeatReplyValue, CommitRequestPartitionValue, CommitRequestTopicValue, CommitRequestValue, CommitReplyPartitionValue, CommitReplyTopicValue, CommitReplyValue, RequestValue, heartbeat_request, commit_request, ReplyValue, heartbeat_reply, commit_reply}
use Rattle.kip_msgs.specs.Topics.{topic_partitions_values}
use Rattle.kip_msgs.specs.declared.header.RequestHeader.{RequestHeader}
use Rattle.kip_msgs.specs.declared.header.ResponseHeader.{ResponseHeader}
use Rattle.kip_msgs.specs.declared.heartbeat.HeartbeatRequest.{HeartbeatRequest}
use Rattle.kip_msgs.specs.declared.heartbeat.HeartbeatReply.{HeartbeatReply}
use Rattle.kip_msgs.specs.declared.heartbeat.Assignment.{Assignment}
use Rattle.kip_msgs.specs.declared.commit.CommitRequestPartition.{CommitRequestPartition}
use Rattle.kip_msgs.specs.declared.commit.CommitRequestTopic.{CommitRequestTopic}
use Rattle.kip_msgs.specs.declared.commit.CommitRequest.{CommitRequest}
use Rattle.kip_msgs.specs.declared.commit.CommitReplyPartition.{CommitReplyPartition}
use Rattle.kip_msgs.specs.declared.commit.CommitReplyTopic.{CommitReplyTopic}
use Rattle.kip_msgs.specs.declared.commit.CommitReply.{CommitReply}
use Rattle.kip_msgs.specs.declared.message.Request.{Request}
use Rattle.kip_msgs.specs.declared.message.Request.TheVariants as requests
use Rattle.kip_msgs.specs.declared.message.Reply.{Reply}
use Rattle.kip_msgs.specs.declared.message.Reply.TheVariants as replies

abbrev pub request_header_value : RequestHeader → RequestHeaderValue
request_header_value header = record {
  correlation_id = header.correlation_id;
  client_id = option_copied header.client_id;
  tags = header.tags;
}

abbrev pub response_header_value : ResponseHeader → ResponseHeaderValue
response_header_value header = record { correlation_id = header.correlation_id; tags = header.tags }

abbrev pub heartbeat_request_value : HeartbeatRequest → HeartbeatRequestValue
heartbeat_request_value message = record {
  group_id = message.group_id.now;
  member_id = message.member_id.now;
  member_epoch = message.member_epoch;
  instance_id = option_copied message.instance_id;
  rack_id = option_copied message.rack_id;
  rebalance_timeout_ms = message.rebalance_timeout_ms;
  subscribed_topic_names = option_map (map (λ name. name.now)) message.subscribed_topic_names;
  server_assignor = option_copied message.server_assignor;
  topic_partitions = option_map topic_partitions_values message.topic_partitions;
  tags = message.tags;
}

abbrev pub assignment_value : Assignment → AssignmentValue
assignment_value assignment = record {
  topic_partitions = topic_partitions_values assignment.topic_partitions;
  tags = assignment.tags;
}

abbrev pub heartbeat_reply_value : HeartbeatReply → HeartbeatReplyValue
heartbeat_reply_value message = record {
  throttle_time_ms = message.throttle_time_ms;
  error_code = message.error_code;
  error_message = option_copied message.error_message;
  member_id = option_copied message.member_id;
  member_epoch = message.member_epoch;
  heartbeat_interval_ms = message.heartbeat_interval_ms;
  assignment = option_map assignment_value message.assignment;
  tags = message.tags;
}

abbrev pub commit_request_partition_value : CommitRequestPartition → CommitRequestPartitionValue
commit_request_partition_value partition = record {
  partition_index = partition.partition_index;
  committed_offset = partition.committed_offset;
  committed_leader_epoch = partition.committed_leader_epoch;
  committed_metadata = option_copied partition.committed_metadata;
  tags = partition.tags;
}

abbrev pub commit_request_topic_value : CommitRequestTopic → CommitRequestTopicValue
commit_request_topic_value topic = record {
  name = topic.name.now;
  partitions = map commit_request_partition_value topic.partitions;
  tags = topic.tags;
}

abbrev pub commit_request_value : CommitRequest → CommitRequestValue
commit_request_value message = record {
  group_id = message.group_id.now;
  generation_id_or_member_epoch = message.generation_id_or_member_epoch;
  member_id = message.member_id.now;
  group_instance_id = option_copied message.group_instance_id;
  topics = map commit_request_topic_value message.topics;
  tags = message.tags;
}

abbrev pub commit_reply_partition_value : CommitReplyPartition → CommitReplyPartitionValue
commit_reply_partition_value partition = record {
  partition_index = partition.partition_index;
  error_code = partition.error_code;
  tags = partition.tags;
}

abbrev pub commit_reply_topic_value : CommitReplyTopic → CommitReplyTopicValue
commit_reply_topic_value topic = record {
  name = topic.name.now;
  partitions = map commit_reply_partition_value topic.partitions;
  tags = topic.tags;
}

abbrev pub commit_reply_value : CommitReply → CommitReplyValue
commit_reply_value message = record {
  throttle_time_ms = message.throttle_time_ms;
  topics = map commit_reply_topic_value message.topics;
  tags = message.tags;
}

abbrev pub request_value : Request → RequestValue
request_value (requests.Heartbeat header message) = heartbeat_request (request_header_value header) (heartbeat_request_value message)
request_value (requests.Commit header message) = commit_request (request_header_value header) (commit_request_value message)

abbrev pub reply_value : Reply → ReplyValue
reply_value (replies.Heartbeat header message) = heartbeat_reply (response_header_value header) (heartbeat_reply_value message)
reply_value (replies.Commit header message) = commit_reply (response_header_value header) (commit_reply_value message)
