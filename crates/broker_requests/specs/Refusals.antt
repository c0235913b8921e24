-- The reply to a heartbeat whose regular expression is none: INVALID_REGULAR_EXPRESSION (KIP-848, "SubscribedTopicRegex"; Kafka protocol
-- guide, "Error Codes").
use Rattle.std.specs.Prelude.{ℕ, ℤ, pos, List, [], Some, None, codes}
use Rattle.kip_msgs.specs.Values.{HeartbeatReplyValue, ReplyValue, heartbeat_reply}
use Rattle.kip_msgs.specs.Spelling.{SpellsReply}
use Rattle.group_types.specs.Frames.{IsFrame}

abbrev pub INVALID_REGULAR_EXPRESSION : ℤ
INVALID_REGULAR_EXPRESSION = pos 128

abbrev pub refusal : HeartbeatReplyValue
refusal = record {
  throttle_time_ms = pos 0;
  error_code = INVALID_REGULAR_EXPRESSION;
  error_message = Some (codes "invalid regular expression");
  member_id = None;
  member_epoch = pos 0;
  heartbeat_interval_ms = pos 0;
  assignment = None;
  tags = [];
}

-- the same with the correlation id of its request
abbrev pub refusal_to : ℤ → ReplyValue
refusal_to correlation_id = heartbeat_reply (record { correlation_id = correlation_id; tags = [] }) refusal

-- the frame of that reply
pub record IsRefusalTo (correlation_id : ℤ) (frame : List ℕ) : Type 0 where
  pub body : List ℕ
  pub spells : SpellsReply (refusal_to correlation_id) body
  pub framed : IsFrame body frame
