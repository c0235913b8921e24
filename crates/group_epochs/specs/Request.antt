-- Requests as the machine sees them: what their messages say, without tagged fields.
use Rattle.std.specs.Prelude.{ℕ, List, map}
use Rattle.std.specs.List.{flat_map}
use Rattle.std.specs.Option.{option_map}
use Rattle.group_types.specs.declared.partition.Partition.{Partition}
use Rattle.group_types.specs.declared.stamp.Stamp.{Stamp}
use Rattle.group_types.specs.Topics.{Topics}
use Rattle.group_types.specs.Request.{Heartbeat}
use Rattle.group_types.specs.HeartbeatStep.{Arrival}
use Rattle.group_types.specs.Commit.{Commit, Commitment}
use Rattle.kip_msgs.specs.Values.{HeartbeatRequestValue, TopicPartitionsValue, CommitRequestPartitionValue, CommitRequestValue}

-- the partitions that an entry of TopicPartitions names
abbrev pub partitions_of : TopicPartitionsValue → List Partition
partitions_of entry = map (λ i. record { topic = entry.topic_id; index = i }) entry.partitions

-- KIP-848, "ConsumerGroupHeartbeat API": the fields of a request
abbrev pub heartbeat_of : HeartbeatRequestValue → Heartbeat
heartbeat_of v =
    record {
      group = v.group_id;
      member = v.member_id;
      epoch = v.member_epoch;
      instance = v.instance_id;
      rack = v.rack_id;
      rebalance_timeout = v.rebalance_timeout_ms;
      names = v.subscribed_topic_names;
      assignor = v.server_assignor;
      owned = option_map (flat_map partitions_of) v.topic_partitions;
    }

-- with its stamp, at a moment, over the node's image
abbrev pub arrival_of : HeartbeatRequestValue → Stamp → ℕ → Topics → Arrival
arrival_of v stamp moment image =
    record { heartbeat = heartbeat_of v; stamp = stamp; moment = moment; image = image }

abbrev pub commitment_of : CommitRequestPartitionValue → Commitment
commitment_of p =
    record {
      index = p.partition_index;
      committed = record { offset = p.committed_offset; leader_epoch = p.committed_leader_epoch; metadata = p.committed_metadata };
    }

-- Kafka protocol guide, "OffsetCommit Request v9": the fields of a request
abbrev pub commit_of : CommitRequestValue → Commit
commit_of v =
    record {
      group = v.group_id;
      member = v.member_id;
      epoch = v.generation_id_or_member_epoch;
      topics = map (λ t. record { name = t.name; partitions = map commitment_of t.partitions }) v.topics;
    }
