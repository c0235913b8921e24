-- The bytes of a reply: the one frame that spells it.
use Rattle.std.specs.Prelude.{ℕ, ℤ, pos, List, [], option_map}
use Rattle.kip_msgs.specs.Values.{AssignmentValue, CommitReplyValue, HeartbeatReplyValue, ReplyValue, heartbeat_reply, commit_reply}
use Rattle.kip_msgs.specs.Spelling.{SpellsReply}
use Rattle.group_types.specs.Frames.{IsFrame}
use Rattle.group_types.specs.Sets.{in_order}
use Rattle.group_types.specs.Partition.{Partitions}
use Rattle.group_types.specs.Code.{code_number, code_text}
use Rattle.group_types.specs.HeartbeatStep.{Reply}
use Rattle.group_types.specs.Commit.{CommitReply}
use Rattle.offset_guard.specs.Replies.{commit_reply_value}
use Rattle.group_core.specs.Listing.{listed}

abbrev pub assignment_value : Partitions → AssignmentValue
assignment_value set = record { topic_partitions = listed (in_order set); tags = [] }

-- KIP-848, "ConsumerGroupHeartbeatResponse": nothing is throttled, and no field is tagged
abbrev pub heartbeat_reply_value : Reply → HeartbeatReplyValue
heartbeat_reply_value r =
    record {
      throttle_time_ms = pos 0;
      error_code = code_number r.code;
      error_message = code_text r.code;
      member_id = r.member;
      member_epoch = r.epoch;
      heartbeat_interval_ms = r.interval;
      assignment = option_map assignment_value r.assignment;
      tags = [];
    }

-- with the correlation id of its request
abbrev pub reply_value : ℤ → Reply → ReplyValue
reply_value correlation r =
    heartbeat_reply (record { correlation_id = correlation; tags = [] }) (heartbeat_reply_value r)

-- with the correlation id of its request
abbrev pub commit_message : ℤ → CommitReplyValue → ReplyValue
commit_message correlation v = commit_reply (record { correlation_id = correlation; tags = [] }) v

abbrev pub commit_value : ℤ → CommitReply → ReplyValue
commit_value correlation reply = commit_message correlation (commit_reply_value reply)

-- the frame spells the reply
pub record IsReplyFrame (v : ReplyValue) (frame : List ℕ) : Type 0 where
  pub body : List ℕ
  pub spells : SpellsReply v body
  pub framed : IsFrame body frame
