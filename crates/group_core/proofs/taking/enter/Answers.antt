use Rattle.std.proofs.Common.{refl, ◌≡◌, None, sym, subst}
use Rattle.std.proofs.lemmas.Result.{IfOk-weaker}
use Rattle.std.specs.Option.{IfSome, MatchOption}
use Rattle.std.specs.Result.{OnErr}
use Rattle.group_types.specs.Group.{Group}
use Rattle.group_types.specs.Join.{IsNamed}
use Rattle.group_types.specs.HeartbeatStep.{Arrival}
use Rattle.group_core.specs.CodeOrder.{TakesInLate}
use Rattle.kip_msgs.specs.Views.{heartbeat_request_value}
use Rattle.group_epochs.specs.Drafts.{CanStore}
use Rattle.group_epochs.specs.Records.{IsInstanceFreeFor, Marks}
use Rattle.group_epochs.specs.Request.{arrival_of}
use Rattle.group_core.specs.declared.draft.Draft.{Draft as Drafted}
use Rattle.group_core.specs.GroupView.{group_of}
use Rattle.group_core.specs.Outcome.{answer_of}
use Rattle.group_core.specs.Stages.{IsDraft, draft_in}
use Rattle.group_core.specs.Steady.{AreMarked}
use Rattle.group_types.specs.Sound.{IsSound}
use Rattle.group_core.proofs.Results.{on_err}
use Rattle.group_core.proofs.TakenIn.{entered, free}
use Rattle.group_core.proofs.taking.enter.Goals as goal
use Rattle.group_core.proofs.Sinces.{holders_from, unchanged_holders}

pub take_in-requires-clause-group : goal.take_in-requires-clause-group
take_in-requires-clause-group c =
    let same = sym c.in_ok-draft.ensures.group in
    record {
      sound = subst IsSound same c.requires.group.sound;
      marked = subst (λ (ms : Marks). AreMarked (group_of c.draft_of.new.state) ms) (sym c.in_ok-draft.ensures.marks)
          (subst (λ (g : Group). AreMarked g c.args.state.now.records.marks) same c.requires.group.marked);
    }

pub take_in-requires-clause-fit : goal.take_in-requires-clause-fit
take_in-requires-clause-fit c =
    let g : Group = group_of c.args.state.now in
    let a : Arrival = arrival_of (heartbeat_request_value c.args.request.now) c.args.stamp c.args.moment c.args.image.now in
    let d = c.in-Some.draft in
    let is = subst (λ o. MatchOption o (IsNamed g a.heartbeat.member None) (IsDraft g a.heartbeat a.stamp c.later-now.result)) c.in-Some.is c.in_ok-draft.ensures.draft in
    record {
      room = subst (λ o. IfSome o (λ (x : Drafted). CanStore c.draft_of.new.state.records x.member.id x.member.record x.member.place)) c.in-Some.is c.in_ok-draft.ensures.room;
      instance = subst (λ (x : Group). IsInstanceFreeFor x.records d.member.id d.member.record) (sym c.in_ok-draft.ensures.group)
          (free g c.requires.group.sound a c.later-now.result c.later-now.ensures d is c.requires.epoch c.requires.accepted);
    }

pub returns-in-Some-clause-step : goal.returns-in-Some-clause-step
returns-in-Some-clause-step c =
    let g : Group = group_of c.args.state.now in
    let a : Arrival = arrival_of (heartbeat_request_value c.args.request.now) c.args.stamp c.args.moment c.args.image.now in
    let now = c.later-now.result in
    let d = c.in-Some.draft in
    let new : Group = group_of c.take_in.new.state in
    let is = subst (λ o. MatchOption o (IsNamed g a.heartbeat.member None) (IsDraft g a.heartbeat a.stamp now)) c.in-Some.is c.in_ok-draft.ensures.draft in
    IfOk-weaker c.take_in.result _ _
    (λ outcome taken. entered g c.requires.group.sound a now c.later-now.ensures d is c.requires.epoch c.requires.accepted (answer_of outcome) new
    (subst (λ (x : Group). TakesInLate x (draft_in x d now) a.heartbeat a.image (answer_of outcome) new) c.in_ok-draft.ensures.group taken))
    c.take_in.ensures.step

pub returns-in-Some-clause-keeps : goal.returns-in-Some-clause-keeps
returns-in-Some-clause-keeps c =
    let keeps = c.take_in.ensures.keeps in
    record {
      out = keeps.out;
      marks = keeps.marks;
      err = subst (λ (g : Group). OnErr c.take_in.result (group_of c.take_in.new.state ≡ g)) c.in_ok-draft.ensures.group keeps.err;
    }

pub returns-in-None-clause-keeps : goal.returns-in-None-clause-keeps
returns-in-None-clause-keeps c =
    let same = sym c.in_ok-draft.ensures.group in
    record {
      out = c.refuse.ensures.out;
      marks = subst (λ (ms : Marks). AreMarked (group_of c.draft_of.new.state) ms) (sym c.in_ok-draft.ensures.marks)
          (subst (λ (g : Group). AreMarked g c.args.state.now.records.marks) same c.requires.group.marked);
      err = on_err c.refuse.result _ c.in_ok-draft.ensures.group;
    }

pub returns-in_err-draft-clause-keeps : goal.returns-in_err-draft-clause-keeps
returns-in_err-draft-clause-keeps c =
    let same = sym c.draft_of.ensures.group in
    record {
      out = refl;
      marks = subst (λ (ms : Marks). AreMarked (group_of c.draft_of.new.state) ms) (sym c.draft_of.ensures.marks)
          (subst (λ (g : Group). AreMarked g c.args.state.now.records.marks) same c.requires.group.marked);
      err = on_err c.from_residual.result _ c.draft_of.ensures.group;
    }

pub returns-in-Some-clause-holders : goal.returns-in-Some-clause-holders
returns-in-Some-clause-holders c =
    holders_from c.take_in.result c.args.state.now c.draft_of.new.state c.take_in.new.state c.in_ok-draft.ensures.holders c.take_in.ensures.holders

pub returns-in-None-clause-holders : goal.returns-in-None-clause-holders
returns-in-None-clause-holders c = unchanged_holders c.refuse.result c.args.state.now c.draft_of.new.state c.in_ok-draft.ensures.holders

pub returns-in_err-draft-clause-holders : goal.returns-in_err-draft-clause-holders
returns-in_err-draft-clause-holders c = unchanged_holders c.from_residual.result c.args.state.now c.draft_of.new.state c.draft_of.ensures.holders
