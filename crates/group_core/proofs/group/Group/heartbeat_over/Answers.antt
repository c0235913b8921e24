use Rattle.std.proofs.Common.{◌≡◌, Result, Ok, Err, sym, subst}
use Rattle.std.specs.Result.{IfOk, OnErr}
use Rattle.group_types.specs.Images.{AreImageTopics}
use Rattle.group_types.specs.Group.{Group}
use Rattle.group_types.specs.HeartbeatStep.{Answer, Arrival, HeartbeatStep}
use Rattle.group_types.specs.Sound.{IsSound}
use Rattle.group_types.proofs.Runs.{heartbeats_are_sound}
use Rattle.kip_msgs.specs.Views.{heartbeat_request_value}
use Rattle.group_epochs.specs.Request.{arrival_of}
use Rattle.group_core.specs.GroupView.{group_of}
use Rattle.group_core.specs.Outcome.{answer_of}
use Rattle.group_core.specs.Group.{GroupValue}
use Rattle.group_core.specs.Since.{KeepsSinceOr}
use Rattle.group_core.specs.GroupView.{group_view}
use Rattle.group_core.proofs.Sinces.{value_on_err}
use Rattle.group_core.proofs.group.Group.heartbeat_over.Goals as goal

sound_after : {X E : Type 0} (r : Result X E) (answer : X → Answer) (a : Arrival) (old new : Group) → AreImageTopics a.image → IsSound old
    → IfOk r (λ o. HeartbeatStep old a (answer o) new) → OnErr r (new ≡ old) → IsSound new
sound_after (Ok o) answer a old new image sound step err = heartbeats_are_sound old a (answer o) new image step sound
sound_after (Err e) answer a old new image sound step err = subst IsSound (sym err) sound

pub invariant_of-self : goal.invariant_of-self
invariant_of-self c =
    let a : Arrival = arrival_of (heartbeat_request_value c.args.request.now.request.now) c.args.stamp c.args.now c.args.image.now in
    record {
      sound = sound_after c.respond.result answer_of a (group_of c.self.inside.state) (group_of c.respond.new.state) c.len.ensures.sound c.self.invariant.sound c.respond.ensures.step c.respond.ensures.keeps.err;
      marked = c.respond.ensures.keeps.marks;
    }

pub returns-clause-since : goal.returns-clause-since
returns-clause-since c =
    let new = c.respond.new.state in
    subst (λ (v : GroupValue). KeepsSinceOr v.holders new.grants new.target.epoch) c.self.view_is c.respond.ensures.holders.since

pub returns-clause-err : goal.returns-clause-err
returns-clause-err c =
    let old = c.self.inside.state in
    let new = c.respond.new.state in
    subst (λ (v : GroupValue). OnErr c.respond.result (group_view (record { state = new }) ≡ v)) c.self.view_is
    (value_on_err c.respond.result (group_of new) (group_of old) new.grants old.grants c.respond.ensures.keeps.err c.respond.ensures.holders.err)
