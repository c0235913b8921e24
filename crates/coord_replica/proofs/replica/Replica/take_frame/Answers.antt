use Rattle.std.proofs.Common.{◌≡◌, ◌≤◌, Some, refl, sym, ap, subst, ◌∙◌}
use Rattle.group_types.specs.declared.stamp.Stamp.{Stamp}
use Rattle.coord_node.specs.Coordinator.{Frame}
use Rattle.coord_node.specs.Nodes.{coordinator_of}
use Rattle.coord_node.specs.Steps.{Step}
use Rattle.replica_entries.specs.Values.{EntryValue, frame}
use Rattle.replica_entries.specs.Views.{frame_value}
use Rattle.coord_replica.specs.Applying.{checked}
use Rattle.coord_replica.specs.ReplicaView.{replica_view}
use Rattle.coord_replica.specs.Replicas.{LogState, ReplicaValue, log_of}
use Rattle.coord_replica.proofs.Refusals.{checked-ok, refusal_of-due}
use Rattle.coord_replica.proofs.Told.{told_under-frame}
use Rattle.coord_replica.proofs.replica.Replica.take_frame.Goals as goal

pub returns-clause-taken : goal.returns-clause-taken
returns-clause-taken c =
    let s : LogState = log_of (replica_view c.self.inside) in
    let e : EntryValue = record { leadership = c.args.leadership; content = frame (frame_value c.args.frame) } in
    let passed : (c.args.leadership ≡ c.self.inside.leadership) × (c.self.inside.moment ≤ c.args.frame.moment) =
    checked-ok s c.args.leadership c.args.frame.moment c.in_ok-check.field-0
    (ap (λ (r : ReplicaValue). checked (log_of r) c.args.leadership c.args.frame.moment) c.self.view_is ∙ sym c.check.ensures ∙ c.in_ok-check.was) in
    let answers = c.in_ok-answered.ensures.step in
    rw (← c.self.view_is)
    (record {
      answer = Some answers.answer;
      takes = record {
        taken = refusal_of-due s e passed.0 passed.1;
        step = subst (λ (stamp : Stamp). Step (coordinator_of c.self.inside.node) (Frame c.args.frame.body.now stamp c.args.frame.moment) answers.answer
            (coordinator_of c.answer.new.self))
            c.stamp_of-stamp.ensures answers.step;
        applied = refl;
        leadership = sym passed.0;
        moment = refl;
      };
      own = refl;
      says = told_under-frame c.args.leadership (frame_value c.args.frame) c.in_ok-answered.answered answers.answer answers.is_answered;
      replies = answers.bytes;
    })
