use Rattle.std.proofs.Common.{rules, arith, ◌≡◌, ◌≤ℤ◌, pos, Some, ap, sym, ◌∙◌}
use Rattle.std.specs.Option.{option_copied}
use Rattle.std.proofs.lemmas.Int.{ints}
use Rattle.kip_msgs.specs.Views.{heartbeat_request_value}
use Rattle.group_epochs.specs.Request.{heartbeat_of}
use Rattle.group_types.specs.Checks.{Accepted, sender_of}
use Rattle.group_types.specs.Request.{kind_of}
use Rattle.group_core.specs.Checks.{verdict_on_request}
use Rattle.group_core.specs.GroupView.{group_of}
use Rattle.group_epochs.specs.Checks.{verdict_of}
use Rattle.group_epochs.proofs.Senders.{record_under-get}
use Rattle.group_core.proofs.Verdicts.{beats_from_one, by_epoch, refused_by_request, refused_by_members, refusal_stands}
use Rattle.group_core.proofs.judge.judge.Goals as goal

pub returns-in-Some : goal.returns-in-Some
returns-in-Some c =
    let s = c.args.state.now in
    let q = heartbeat_of (heartbeat_request_value c.args.request.now) in
    sym (refused_by_request (kind_of q.epoch) (sender_of s.records.records q) (group_of s) q c.args.stamp c.in-Some.code c.in-Some.ensures)

pub returns-in-Err : goal.returns-in-Err
returns-in-Err c =
    let s = c.args.state.now in
    let q = heartbeat_of (heartbeat_request_value c.args.request.now) in
    let valid : verdict_on_request q ≡ Accepted = search rules in
    c.in-Err.ensures.verdict
    ∙ sym (refused_by_members (kind_of q.epoch) (sender_of s.records.records q) (group_of s) q c.args.stamp valid
    (λ accepted. refusal_stands c.in-Err.refusal (c.in-Err.ensures.verdict ∙ accepted)))

pub returns-in-Some-own : goal.returns-in-Some-own
returns-in-Some-own c =
    let s = c.args.state.now in
    let q = heartbeat_of (heartbeat_request_value c.args.request.now) in
    let sender = sender_of s.records.records q in
    let above : pos 1 ≤ℤ q.epoch = omega (arith, ints, c.if-request-lt1.false) in
    let own : sender.own ≡ Some c.in-Some-own.member.now =
    record_under-get s.records.records q.member c.requires.sound.named ∙ sym c.in-Ok.ensures.own ∙ ap option_copied c.in-Some-own.is in
    beats_from_one q.epoch above sender (group_of s).grants q (verdict_of c.check_epoch.result) (λ n at. c.check_epoch.ensures n sender at own)
    ∙ sym (by_epoch (kind_of q.epoch) sender (group_of s) q c.args.stamp c.in_default.ensures (sym c.in-Ok.ensures.verdict))
