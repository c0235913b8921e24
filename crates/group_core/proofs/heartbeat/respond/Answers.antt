use Rattle.std.proofs.Common.{◌≡◌, ◌-◌, length, vec_capacity, IfNone, IfSome, ap, sym, subst, ◌∙◌}
use Rattle.group_types.specs.Group.{Group}
use Rattle.group_types.specs.HeartbeatStep.{HeartbeatStep}
use Rattle.kip_msgs.specs.Views.{heartbeat_request_value}
use Rattle.group_epochs.specs.Request.{arrival_of}
use Rattle.group_core.specs.GroupView.{IsGroup, group_of}
use Rattle.group_core.specs.Outcome.{answer_of, IsResponse}
use Rattle.group_reconcile.specs.Holders.{Holders}
use Rattle.group_core.specs.Since.{KeepsSinceOr}
use Rattle.group_core.specs.declared.state.State.{State}
use Rattle.group_target.specs.TargetState.{TargetState}
use Rattle.group_core.proofs.heartbeat.respond.Goals as goal
use Rattle.group_core.proofs.heartbeat.respond.Goals.{then-is_current+then-is_steady_beat+in_ok-outcome+in_default, else-is_current}

pub returns-in-Some-clause-step : goal.returns-in-Some-clause-step
returns-in-Some-clause-step c =
    let a = arrival_of (heartbeat_request_value c.args.request.now) c.args.stamp c.args.moment c.args.image.now in
    subst (λ answer. IfSome answer (λ outcome. HeartbeatStep (group_of c.args.state.now) a (answer_of outcome) (group_of c.beat_steadily.new.state))) c.in-Some.is
    (c.in_ok-outcome.ensures.step c.args.image.now (c.requires.current c.if-is_current.true))

pub returns-in-Some-clause-response : goal.returns-in-Some-clause-response
returns-in-Some-clause-response c =
    subst (λ answer. IfSome answer (λ outcome. IsResponse (answer_of outcome) (group_of c.beat_steadily.new.state) c.args.image.now (vec_capacity c.beat_steadily.new.out - length c.beat_steadily.new.out.items))) c.in-Some.is
    (c.in_ok-outcome.ensures.response c.args.image.now (c.requires.current c.if-is_current.true))

pub answer-requires : goal.answer-requires
answer-requires c =
    record {
      group = elim c.if-is_current.branch [
        | then-is_current+then-is_steady_beat+in_ok-outcome+in_default w ↦ subst IsGroup (sym (w.state-is ∙ subst (λ o. IfNone o (w.beat_steadily.new.state ≡ c.args.state.now)) w.in_default.is w.in_ok-outcome.ensures.none)) c.requires.group
        | else-is_current w ↦ subst IsGroup (sym w.state-is) c.requires.group
      ];
      id = c.requires.id;
    }

pub returns-clause-step : goal.returns-clause-step
returns-clause-step c =
    let g = group_of c.args.state.now in
    let a = arrival_of (heartbeat_request_value c.args.request.now) c.args.stamp c.args.moment c.args.image.now in
    let answer = answer_of c.in_ok-outcome-2.outcome in
    let same : group_of c.if-is_current.state ≡ g = elim c.if-is_current.branch [
      | then-is_current+then-is_steady_beat+in_ok-outcome+in_default w ↦ ap group_of (w.state-is ∙ subst (λ o. IfNone o (w.beat_steadily.new.state ≡ c.args.state.now)) w.in_default.is w.in_ok-outcome.ensures.none)
      | else-is_current w ↦ ap group_of w.state-is
    ] in
    subst (HeartbeatStep g a answer) (sym c.mark_replied.ensures.group)
    (subst (λ (before : Group). HeartbeatStep before a answer (group_of c.answer.new.state)) same c.in_ok-outcome-2.ensures.step)

pub returns-clause-response : goal.returns-clause-response
returns-clause-response c =
    subst (λ (g : Group). IsResponse (answer_of c.in_ok-outcome-2.outcome) g c.args.image.now (vec_capacity c.answer.new.out - length c.answer.new.out.items)) (sym c.mark_replied.ensures.group) c.in_ok-outcome-2.ensures.response

pub returns-clause-holders : goal.returns-clause-holders
returns-clause-holders c =
    let s = c.args.state.now in
    let before : c.if-is_current.state.grants ≡ s.grants = elim c.if-is_current.branch [
      | then-is_current+then-is_steady_beat+in_ok-outcome+in_default w ↦ ap (λ (x : State). x.grants) (w.state-is ∙ subst (λ o. IfNone o (w.beat_steadily.new.state ≡ s)) w.in_default.is w.in_ok-outcome.ensures.none)
      | else-is_current w ↦ ap (λ (x : State). x.grants) w.state-is
    ] in
    let since = subst (λ (h : Holders). KeepsSinceOr h c.answer.new.state.grants c.answer.new.state.target.epoch) before c.answer.ensures.holders.since in
    record {
      since = subst (λ (t : TargetState). KeepsSinceOr s.grants c.mark_replied.new.state.grants t.epoch) (sym c.mark_replied.ensures.target)
          (subst (λ (h : Holders). KeepsSinceOr s.grants h c.answer.new.state.target.epoch) (sym c.mark_replied.ensures.holders) since);
      err = tt;
    }
