use Rattle.std.proofs.Common.{sym, subst}
use Rattle.group_types.specs.Request.{kind_of}
use Rattle.group_types.specs.Checks.{sender_of}
use Rattle.group_types.proofs.Checked.{IsRefusal, refusals_differ}
use Rattle.kip_msgs.specs.Views.{heartbeat_request_value}
use Rattle.group_epochs.specs.Request.{heartbeat_of}
use Rattle.group_core.specs.GroupView.{group_of}
use Rattle.group_core.proofs.heartbeat.answer.Goals as goal

pub refuse-requires : goal.refuse-requires
refuse-requires c =
    let s = c.args.state.now in
    let q = heartbeat_of (heartbeat_request_value c.args.request.now) in
    let is = rw c.in-Err-Refused.field-0-is at c.in-Err-Refused.ensures in
    rw c.in-Err-Refused.field-0-is (subst IsRefusal (sym is) (refusals_differ (kind_of q.epoch) (sender_of s.records.records q) (group_of s) q c.args.stamp))

pub returns-in-Err-Refused-clause-response : goal.returns-in-Err-Refused-clause-response
returns-in-Err-Refused-clause-response c = c.refuse.ensures.response (group_of c.args.state.now) c.args.image.now
