use Rattle.std.proofs.Common.{◌≡◌, ◌≤◌, Some, refl, sym, ap, ◌∙◌, append-nil}
use Rattle.coord_node.specs.Coordinator.{Done}
use Rattle.replica_entries.specs.Values.{EntryValue, tick}
use Rattle.coord_replica.specs.Applying.{checked}
use Rattle.coord_replica.specs.ReplicaView.{replica_view}
use Rattle.coord_replica.specs.Replicas.{LogState, ReplicaValue, log_of}
use Rattle.coord_replica.proofs.Refusals.{checked-ok, refusal_of-due}
use Rattle.coord_replica.proofs.replica.Replica.take_tick.Goals as goal

pub returns-clause-taken : goal.returns-clause-taken
returns-clause-taken c =
    let s : LogState = log_of (replica_view c.self.inside) in
    let e : EntryValue = record { leadership = c.args.leadership; content = tick c.args.moment } in
    let passed : (c.args.leadership ≡ c.self.inside.leadership) × (c.self.inside.moment ≤ c.args.moment) =
    checked-ok s c.args.leadership c.args.moment c.in_ok-check.field-0
    (ap (λ (r : ReplicaValue). checked (log_of r) c.args.leadership c.args.moment) c.self.view_is ∙ sym c.check.ensures ∙ c.in_ok-check.was) in
    rw (← c.self.view_is)
    (λ bytes. record {
      answer = Some (Done c.tick-removed.result);
      takes = record {
        taken = refusal_of-due s e passed.0 passed.1;
        step = c.tick-removed.ensures;
        applied = refl;
        leadership = sym passed.0;
        moment = refl;
      };
      own = refl;
      says = refl;
      replies = sym (append-nil bytes);
    })
