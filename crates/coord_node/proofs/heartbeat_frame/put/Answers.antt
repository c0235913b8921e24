use Rattle.std.proofs.Common.{rules, ◌≡◌, ℕ, ◌-◌, [], length, sym, subst, pos, to_z, of_z, w16, w32, vec_capacity}
use Rattle.kip_msgs.specs.declared.heartbeat.HeartbeatReply.{HeartbeatReply}
use Rattle.kip_msgs.specs.Values.{ReplyValue, ResponseHeaderValue, heartbeat_reply}
use Rattle.kip_msgs.specs.Views as views
use Rattle.group_core.specs.Outcome.{reply_of}
use Rattle.coord_node.specs.Answers.{HasRoomInFrame}
use Rattle.coord_node.specs.Replies.{heartbeat_reply_value, reply_value}
use Rattle.coord_node.proofs.ReplyLemmas.{HasRoomInFrame-reply}
use Rattle.coord_node.proofs.heartbeat_frame.put.Goals as goal

pub put-requires : goal.put-requires
put-requires c =
    let r = reply_of c.args.reply in
    let message : HeartbeatReply =
    record {
      throttle_time_ms = pos 0;
      error_code = to_z w16 (of_z w16 c.number.result);
      error_message = c.text.result;
      member_id = c.text_of.result;
      member_epoch = to_z w32 (of_z w32 c.args.reply.epoch);
      heartbeat_interval_ms = to_z w32 (of_z w32 c.args.reply.interval);
      assignment = c.assignment_of.result;
      tags = c.new-2.result;
    } in
    let value : views.heartbeat_reply_value message ≡ heartbeat_reply_value r = search rules in
    let header : ResponseHeaderValue = record { correlation_id = to_z w32 (of_z w32 c.args.correlation); tags = c.new.result } in
    let head : header ≡ (record { correlation_id = c.args.correlation; tags = [] }) = search rules in
    let same : heartbeat_reply header (views.heartbeat_reply_value message) ≡ reply_value c.args.correlation r = (λ i. heartbeat_reply (head i) (value i)) in
    let left : ℕ = vec_capacity c.args.out.now - length c.args.out.now.items in
    subst (λ (v : ReplyValue). HasRoomInFrame v left) (sym same) (HasRoomInFrame-reply c.args.correlation r left c.requires c.assignment_of.ensures.ids)
