use Rattle.std.proofs.Common.{rules, ◌≡◌, ◌∙◌, sym, subst}
use Rattle.group_types.specs.Group.{Group}
use Rattle.group_types.specs.Request.{GOES_AWAY_AT, kind_of}
use Rattle.group_types.specs.Checks.{Sender, sender_of}
use Rattle.group_types.specs.HeartbeatStep.{Arrival, GoesAwayWith, StepOf}
use Rattle.kip_msgs.specs.Views.{heartbeat_request_value}
use Rattle.group_epochs.specs.Request.{arrival_of}
use Rattle.group_core.specs.GroupView.{group_of}
use Rattle.group_core.specs.Outcome.{answer_of}
use Rattle.group_core.proofs.Results.{IfOk-both}
use Rattle.group_epochs.proofs.Senders.{record_under-get}
use Rattle.group_core.proofs.heartbeat.accept.Goals as goal

pub returns-in-minus2-clause-step : goal.returns-in-minus2-clause-step
returns-in-minus2-clause-step c =
    let s = c.args.state.now in
    let a : Arrival = arrival_of (heartbeat_request_value c.args.request.now) c.args.stamp c.args.moment c.args.image.now in
    let g : Group = group_of s in
    let sender : Sender = sender_of s.records.records a.heartbeat in
    let new : Group = group_of c.go_away.new.state in
    let at : a.heartbeat.epoch ≡ GOES_AWAY_AT = search rules in
    IfOk-both c.go_away.result _ _ (λ outcome. StepOf (kind_of a.heartbeat.epoch) sender g a (answer_of outcome) new)
    (λ outcome replied gone.
    subst (λ e. StepOf (kind_of e) sender g a (answer_of outcome) new) (sym at)
    (subst (λ own. GoesAwayWith own g a (answer_of outcome) new) (sym (record_under-get s.records.records a.heartbeat.member c.requires.group.sound.named ∙ gone.1)) (replied, gone.2)))
    c.go_away.ensures.answer c.go_away.ensures.group
