use Rattle.std.proofs.Common.{◌≡◌, None, Some, sym, ap, ◌∙◌}
use Rattle.std.proofs.lemmas.Result.{IfOk-weaker}
use Rattle.group_types.specs.Request.{kind_of}
use Rattle.group_types.specs.Checks.{sender_of}
use Rattle.kip_msgs.specs.Views.{heartbeat_request_value}
use Rattle.group_epochs.specs.Drafts.{drafted}
use Rattle.group_epochs.specs.Request.{heartbeat_of}
use Rattle.group_epochs.proofs.Senders.{record_under-get}
use Rattle.group_epochs.proofs.records.Records.draft.Goals as goal

pub returns-in_ok-after-in-Some-clause-draft : goal.returns-in_ok-after-in-Some-clause-draft
returns-in_ok-after-in-Some-clause-draft c =
    let s = c.args.self.now in
    let q = heartbeat_of (heartbeat_request_value c.args.request.now) in
    let sender = sender_of s.records q in
    let own : sender.own ≡ Some c.in-Some.own.now = record_under-get s.records q.member c.requires.sound.named ∙ sym c.in-Some.ensures in
    IfOk-weaker c.draft_again.result _ _
    (λ d is. is
    ∙ (λ i. record { id = c.args.id; kept = c.in_ok-after-in-Some.ensures i; heir = None })
    ∙ ap (λ o. drafted (kind_of q.epoch) o sender.other c.args.id q c.args.stamp c.args.now) (sym own))
    c.draft_again.ensures.draft
