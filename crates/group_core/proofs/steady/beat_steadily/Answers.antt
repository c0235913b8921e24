use Rattle.std.proofs.Common.{rules, ◌≡◌, ℕ, max, None, sym, subst, ap, ◌∙◌, refl}
use Rattle.std.specs.FinMap as finite
use Rattle.group_types.specs.declared.epoch.Epoch.TheVariants.{At}
use Rattle.group_types.specs.Group.{Group, Record}
use Rattle.group_types.specs.HeartbeatStep.{Arrival, acceptance}
use Rattle.group_types.specs.Renewal.{view_for}
use Rattle.kip_msgs.specs.Views.{heartbeat_request_value}
use Rattle.group_epochs.specs.Records.{IsMarkedBeat, RecordsState, beaten}
use Rattle.group_epochs.specs.Request.{arrival_of}
use Rattle.group_core.specs.GroupView.{group_of}
use Rattle.group_core.specs.Outcome.{reply_of}
use Rattle.group_core.specs.Steady.{AreMarked, IsSteady}
use Rattle.group_core.proofs.SteadyBeats.{steady_answers, steady_then}
use Rattle.group_types.proofs.ViewsFor.{view_for-insert}
use Rattle.group_core.proofs.steady.beat_steadily.Goals as goal

pub returns-then-not-beat_marked-clause-some : goal.returns-then-not-beat_marked-clause-some
returns-then-not-beat_marked-clause-some c = λ beat.
    c.if-not-beat_marked.ensures.marked.1 (subst (λ t. IsMarkedBeat c.args.state.now.records c.args.request.now.member_id.now t c.args.stamp) (sym c.epoch-epoch.ensures) beat)

pub returns-then-not-beat_marked-clause-keeps : goal.returns-then-not-beat_marked-clause-keeps
returns-then-not-beat_marked-clause-keeps c =
    let s = c.args.state.now in
    record {
      out = search rules;
      marks = subst (λ (rs : RecordsState). AreMarked (group_of (record s { records = rs })) rs.marks) (sym (c.if-not-beat_marked.ensures.no refl)) c.requires.group.marked;
      err = tt;
    }

pub returns-clause-step : goal.returns-clause-step
returns-clause-step c = λ image current.
    let s = c.args.state.now in
    let a : Arrival = arrival_of (heartbeat_request_value c.args.request.now) c.args.stamp c.args.moment image in
    let beat : IsMarkedBeat s.records a.heartbeat.member s.target.epoch a.stamp = subst (λ t. IsMarkedBeat s.records a.heartbeat.member t a.stamp) c.epoch-epoch.ensures (c.if-not-beat_marked.ensures.marked.0 refl) in
    let r : Record = beat.kept in
    let now : ℕ = max s.clock c.args.moment in
    let replied : reply_of c.acceptance-reply.result ≡ acceptance a.heartbeat.member (record (beaten r c.args.stamp now) { epoch = At s.target.epoch }) None =
    c.acceptance-reply.ensures ∙ (λ i. acceptance (c.in_ok-id.ensures.id i) (record (beaten r c.args.stamp now) { epoch = At (c.epoch-epoch.ensures i) }) None) in
    let stored : c.beat_marked.new.self.records ≡ finite.insert s.records.records a.heartbeat.member (beaten r c.args.stamp now) =
    c.if-not-beat_marked.ensures.records r refl beat.is_kept ∙ ap (λ t. finite.insert s.records.records a.heartbeat.member (beaten r c.args.stamp t)) c.later-now.ensures in
    rw (replied, c.later-now.ensures, stored, c.beat_marked.ensures.past)
    (steady_answers s c.requires.group.sound c.requires.group.marked a c.requires.steady beat current)

pub returns-clause-response : goal.returns-clause-response
returns-clause-response c = λ image current.
    let s = c.args.state.now in
    let beat = c.if-not-beat_marked.ensures.marked.0 refl in
    let stays = current ∙ sym (ap (view_for image) (c.if-not-beat_marked.ensures.records beat.kept refl beat.is_kept)
    ∙ view_for-insert image s.records.records _ beat.kept (beaten beat.kept c.args.stamp c.later-now.result) beat.is_kept refl) in
    record { few = search rules; current = λ ok above. stays; room = search rules }

pub returns-clause-keeps : goal.returns-clause-keeps
returns-clause-keeps c =
    let s = c.args.state.now in
    record {
      out = search rules;
      marks = λ m e is.
          let beat = c.if-not-beat_marked.ensures.marked.0 refl in
          let before = c.requires.group.marked m e (ap (λ ms. finite.get ms m) (sym c.beat_marked.ensures.marks) ∙ is) in
          let stored = c.if-not-beat_marked.ensures.records beat.kept refl beat.is_kept in (
            before.0,
            λ same. subst (λ (g : Group). IsSteady g m)
                (λ i. record (group_of s) { clock = c.later-now.result; records = sym stored i; past = sym c.beat_marked.ensures.past i })
                (steady_then (group_of s) _ beat.kept c.args.stamp c.later-now.result beat.is_kept m (before.1 same)),
          );
      err = tt;
    }
