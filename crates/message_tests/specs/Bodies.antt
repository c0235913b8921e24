-- Bodies worked out by hand from the protocol guide and KIP-848, line by line with what their bytes say. No two fields of one kind say
-- the same, so fields in another order make another body.
use Rattle.std.specs.Prelude.{◌≡◌, ℕ, pos, negsuc, List, [], ◌∷◌, ◌++◌, Some}
use Rattle.kip_msgs.specs.Values.{HeartbeatRequestValue, HeartbeatReplyValue, CommitRequestValue, CommitReplyValue, TopicPartitionsValue, RequestHeaderValue, ResponseHeaderValue, heartbeat_request, heartbeat_reply, commit_request, commit_reply}
use Rattle.kip_msgs.specs.Spelling.{request_body, reply_body}

abbrev pub TOPIC : List ℕ
TOPIC =
    0x22 ∷ 0x22 ∷ 0x22 ∷ 0x22 ∷ 0x22 ∷ 0x22 ∷ 0x22 ∷ 0x22 ∷ 0x22 ∷ 0x22 ∷ 0x22 ∷ 0x22 ∷ 0x22 ∷ 0x22 ∷ 0x22 ∷ 0x22 ∷ []

abbrev pub request_header : RequestHeaderValue
request_header = record { correlation_id = pos 256; client_id = Some (0x63 ∷ []); tags = [] }

abbrev pub response_header : ResponseHeaderValue
response_header = record { correlation_id = pos 256; tags = [] }

-- partitions 3 and 4 of the topic
abbrev pub partitions : TopicPartitionsValue
partitions = record { topic_id = TOPIC; partitions = pos 3 ∷ pos 4 ∷ []; tags = [] }

-- KIP-848, "ConsumerGroupHeartbeatRequest": GroupId, MemberId, MemberEpoch, InstanceId, RackId, RebalanceTimeoutMs,
-- SubscribedTopicNames, ServerAssignor, TopicPartitions
abbrev pub heartbeat : HeartbeatRequestValue
heartbeat =
    record {
      group_id = 0x67 ∷ [];
      member_id = 0x6d ∷ [];
      member_epoch = pos 5;
      instance_id = Some (0x69 ∷ []);
      rack_id = Some (0x72 ∷ []);
      rebalance_timeout_ms = pos 60000;
      subscribed_topic_names = Some ((0x74 ∷ []) ∷ []);
      server_assignor = Some (0x61 ∷ []);
      topic_partitions = Some (partitions ∷ []);
      tags = [];
    }

abbrev pub HEARTBEAT : List ℕ
HEARTBEAT =
    (0 ∷ 68 ∷ [])  -- key
    ++ (0 ∷ 0 ∷ [])  -- version
    ++ (0 ∷ 0 ∷ 1 ∷ 0 ∷ [])  -- correlation id
    ++ (0 ∷ 1 ∷ 0x63 ∷ [])  -- client "c"
    ++ (0 ∷ [])  -- no tagged fields
    ++ (2 ∷ 0x67 ∷ [])  -- group "g"
    ++ (2 ∷ 0x6d ∷ [])  -- member "m"
    ++ (0 ∷ 0 ∷ 0 ∷ 5 ∷ [])  -- epoch
    ++ (2 ∷ 0x69 ∷ [])  -- instance "i"
    ++ (2 ∷ 0x72 ∷ [])  -- rack "r"
    ++ (0 ∷ 0 ∷ 0xea ∷ 0x60 ∷ [])  -- timeout
    ++ (2 ∷ 2 ∷ 0x74 ∷ [])  -- one name, "t"
    ++ (2 ∷ 0x61 ∷ [])  -- assignor "a"
    ++ (2 ∷ TOPIC)  -- one topic
    ++ (3 ∷ 0 ∷ 0 ∷ 0 ∷ 3 ∷ 0 ∷ 0 ∷ 0 ∷ 4 ∷ 0 ∷ [])  -- its two partitions
    ++ (0 ∷ [])  -- no tagged fields

-- KIP-848, "ConsumerGroupHeartbeatResponse": ThrottleTimeMs, ErrorCode, ErrorMessage, MemberId, MemberEpoch, HeartbeatIntervalMs,
-- Assignment
abbrev pub heartbeat_answer : HeartbeatReplyValue
heartbeat_answer =
    record {
      throttle_time_ms = pos 100;
      error_code = pos 110;
      error_message = Some (0x65 ∷ []);
      member_id = Some (0x6d ∷ []);
      member_epoch = pos 5;
      heartbeat_interval_ms = pos 5000;
      assignment = Some (record { topic_partitions = partitions ∷ []; tags = [] });
      tags = [];
    }

abbrev pub HEARTBEAT_ANSWER : List ℕ
HEARTBEAT_ANSWER =
    (0 ∷ 0 ∷ 1 ∷ 0 ∷ [])  -- correlation id
    ++ (0 ∷ [])  -- no tagged fields
    ++ (0 ∷ 0 ∷ 0 ∷ 100 ∷ [])  -- throttle time
    ++ (0 ∷ 110 ∷ [])  -- error
    ++ (2 ∷ 0x65 ∷ [])  -- message "e"
    ++ (2 ∷ 0x6d ∷ [])  -- member "m"
    ++ (0 ∷ 0 ∷ 0 ∷ 5 ∷ [])  -- epoch
    ++ (0 ∷ 0 ∷ 0x13 ∷ 0x88 ∷ [])  -- interval
    ++ (1 ∷ 2 ∷ TOPIC)  -- an assignment: one topic
    ++ (3 ∷ 0 ∷ 0 ∷ 0 ∷ 3 ∷ 0 ∷ 0 ∷ 0 ∷ 4 ∷ 0 ∷ [])  -- its two partitions
    ++ (0 ∷ 0 ∷ [])  -- no tagged fields

-- protocol guide, "OffsetCommit Request v9": group_id, generation_id_or_member_epoch, member_id, group_instance_id, topics; of a topic name
-- and partitions; of a partition partition_index, committed_offset, committed_leader_epoch, committed_metadata
abbrev pub commit : CommitRequestValue
commit =
    record {
      group_id = 0x67 ∷ [];
      generation_id_or_member_epoch = pos 5;
      member_id = 0x6d ∷ [];
      group_instance_id = Some (0x69 ∷ []);
      topics =
          record {
            name = 0x74 ∷ [];
            partitions = record { partition_index = pos 3; committed_offset = pos 300; committed_leader_epoch = negsuc 0; committed_metadata = Some (0x6f ∷ []); tags = [] } ∷ [];
            tags = [];
          }
          ∷ [];
      tags = [];
    }

abbrev pub COMMIT : List ℕ
COMMIT =
    (0 ∷ 8 ∷ [])  -- key
    ++ (0 ∷ 9 ∷ [])  -- version
    ++ (0 ∷ 0 ∷ 1 ∷ 0 ∷ [])  -- correlation id
    ++ (0 ∷ 1 ∷ 0x63 ∷ [])  -- client "c"
    ++ (0 ∷ [])  -- no tagged fields
    ++ (2 ∷ 0x67 ∷ [])  -- group "g"
    ++ (0 ∷ 0 ∷ 0 ∷ 5 ∷ [])  -- epoch
    ++ (2 ∷ 0x6d ∷ [])  -- member "m"
    ++ (2 ∷ 0x69 ∷ [])  -- instance "i"
    ++ (2 ∷ 2 ∷ 0x74 ∷ [])  -- one topic, "t"
    ++ (2 ∷ 0 ∷ 0 ∷ 0 ∷ 3 ∷ [])  -- one partition
    ++ (0 ∷ 0 ∷ 0 ∷ 0 ∷ 0 ∷ 0 ∷ 1 ∷ 0x2c ∷ [])  -- offset
    ++ (0xff ∷ 0xff ∷ 0xff ∷ 0xff ∷ [])  -- leader epoch -1
    ++ (2 ∷ 0x6f ∷ 0 ∷ [])  -- metadata "o"
    ++ (0 ∷ 0 ∷ [])  -- no tagged fields

-- protocol guide, "OffsetCommit Response v9": throttle_time_ms, topics; of a topic name and partitions; of a partition partition_index
-- and error_code
abbrev pub commit_answer : CommitReplyValue
commit_answer =
    record {
      throttle_time_ms = pos 100;
      topics = record { name = 0x74 ∷ []; partitions = record { partition_index = pos 3; error_code = pos 113; tags = [] } ∷ []; tags = [] } ∷ [];
      tags = [];
    }

abbrev pub COMMIT_ANSWER : List ℕ
COMMIT_ANSWER =
    (0 ∷ 0 ∷ 1 ∷ 0 ∷ [])  -- correlation id
    ++ (0 ∷ [])  -- no tagged fields
    ++ (0 ∷ 0 ∷ 0 ∷ 100 ∷ [])  -- throttle time
    ++ (2 ∷ 2 ∷ 0x74 ∷ [])  -- one topic, "t"
    ++ (2 ∷ 0 ∷ 0 ∷ 0 ∷ 3 ∷ [])  -- one partition
    ++ (0 ∷ 113 ∷ 0 ∷ [])  -- error
    ++ (0 ∷ 0 ∷ [])  -- no tagged fields

abbrev pub HeartbeatIsTheGuides : Type 0
HeartbeatIsTheGuides = request_body (heartbeat_request request_header heartbeat) ≡ HEARTBEAT

abbrev pub HeartbeatAnswerIsTheGuides : Type 0
HeartbeatAnswerIsTheGuides = reply_body (heartbeat_reply response_header heartbeat_answer) ≡ HEARTBEAT_ANSWER

abbrev pub CommitIsTheGuides : Type 0
CommitIsTheGuides = request_body (commit_request request_header commit) ≡ COMMIT

abbrev pub CommitAnswerIsTheGuides : Type 0
CommitAnswerIsTheGuides = reply_body (commit_reply response_header commit_answer) ≡ COMMIT_ANSWER
