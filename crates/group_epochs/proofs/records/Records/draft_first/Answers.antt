use Rattle.std.proofs.Common.{◌≡◌, None, Some, sym, ◌∙◌}
use Rattle.std.proofs.lemmas.Result.{IfOk-weaker}
use Rattle.group_types.specs.Request.{kind_of}
use Rattle.group_types.specs.Checks.{sender_of}
use Rattle.kip_msgs.specs.Views.{heartbeat_request_value}
use Rattle.group_epochs.specs.Drafts.{drafted}
use Rattle.group_epochs.specs.Request.{heartbeat_of}
use Rattle.group_epochs.proofs.Senders.{record_under-get}
use Rattle.group_epochs.proofs.records.Records.draft_first.Goals as goal

pub returns-in_ok-taken-in-Some-clause-draft : goal.returns-in_ok-taken-in-Some-clause-draft
returns-in_ok-taken-in-Some-clause-draft c =
    let s = c.args.self.now in
    let q = heartbeat_of (heartbeat_request_value c.args.request.now) in
    let own : (sender_of s.records q).own ≡ None = record_under-get s.records q.member c.requires.sound.named ∙ c.requires.none in
    IfOk-weaker c.draft_heir.result _ _
    (λ d is. is
    ∙ (λ i. record { id = c.in_ok-standing-in-Some.ensures i; kept = c.in_ok-taken-in-Some.ensures i; heir = Some c.args.id })
    ∙ (λ i. drafted (kind_of q.epoch) (sym own i) (sym c.in-Some.ensures i) c.args.id q c.args.stamp c.args.now))
    c.draft_heir.ensures.draft

pub returns-in_ok-first-in-None-clause-draft : goal.returns-in_ok-first-in-None-clause-draft
returns-in_ok-first-in-None-clause-draft c =
    let s = c.args.self.now in
    let q = heartbeat_of (heartbeat_request_value c.args.request.now) in
    let own : (sender_of s.records q).own ≡ None = record_under-get s.records q.member c.requires.sound.named ∙ c.requires.none in
    IfOk-weaker c.draft_new.result _ _
    (λ d is. is
    ∙ (λ i. record { id = c.args.id; kept = c.in_ok-first-in-None.ensures i; heir = None })
    ∙ (λ i. drafted (kind_of q.epoch) (sym own i) (sym c.in-None.ensures i) c.args.id q c.args.stamp c.args.now))
    c.draft_new.ensures.draft
