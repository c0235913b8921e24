use Rattle.std.proofs.Common.{sym, ◌∙◌}
use Rattle.group_types.specs.Checks.{sender_of}
use Rattle.kip_msgs.specs.Views.{heartbeat_request_value}
use Rattle.group_epochs.specs.Records.{members_in}
use Rattle.group_epochs.specs.Request.{heartbeat_of}
use Rattle.group_epochs.proofs.Senders.{record_under-get}
use Rattle.group_epochs.proofs.records.Records.check_member.Goals as goal

pub returns : goal.returns
returns c =
    let s = c.args.self.now in
    let q = heartbeat_of (heartbeat_request_value c.args.request.now) in
    c.check_own.ensures (sender_of s.records q) (members_in s) (record_under-get s.records q.member c.requires.sound.named ∙ sym c.requires.own)
