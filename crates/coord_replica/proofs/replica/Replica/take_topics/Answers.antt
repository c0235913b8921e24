use Rattle.std.proofs.Common.{◌≡◌, ◌≤◌, Some, option_map, refl, sym, ap, subst, ◌∙◌, append-nil}
use Rattle.group_types.specs.Images.{AreImageTopics}
use Rattle.group_types.specs.Topics.{Topics}
use Rattle.topic_meta.specs.Images.{entries_of}
use Rattle.coord_node.specs.Coordinator.{Coordinator, Done}
use Rattle.coord_node.specs.Nodes.{coordinator_of}
use Rattle.replica_entries.specs.Values.{EntryValue, image}
use Rattle.coord_replica.specs.Faults.{fault_of_topics}
use Rattle.coord_replica.specs.Applying.{checked}
use Rattle.coord_replica.specs.ReplicaView.{replica_view}
use Rattle.coord_replica.specs.Replicas.{LogState, ReplicaValue, log_of}
use Rattle.coord_replica.proofs.Refusals.{checked-ok, refusal_of-due}
use Rattle.coord_replica.proofs.replica.Replica.take_topics.Goals as goal

pub returns-clause-taken : goal.returns-clause-taken
returns-clause-taken c =
    let s : LogState = log_of (replica_view c.self.inside) in
    let e : EntryValue = record { leadership = c.args.leadership; content = image (entries_of c.args.topics.items) } in
    let passed : (c.args.leadership ≡ c.self.inside.leadership) × (c.self.inside.moment ≤ c.self.inside.moment) =
    checked-ok s c.args.leadership c.self.inside.moment c.in_ok-check.field-0
    (ap (λ (r : ReplicaValue). checked (log_of r) c.args.leadership c.self.inside.moment) c.self.view_is ∙ sym c.check.ensures ∙ c.in_ok-check.was) in
    let accepted = c.in_ok-image.ensures.accepted in
    let node : Coordinator = coordinator_of c.self.inside.node in
    rw (← c.self.view_is)
    (λ bytes. record {
      answer = Some (Done 0);
      takes = record {
        taken = refusal_of-due s e passed.0 passed.1 ∙ ap (option_map fault_of_topics) accepted.0;
        step = (
          refl,
          ap coordinator_of c.set_image.ensures.value ∙ ap (λ (topics : Topics). record node { image = topics }) accepted.1,
          subst (λ (topics : Topics). AreImageTopics topics) accepted.1 c.set_image.ensures.sound,
        );
        applied = refl;
        leadership = sym passed.0;
        moment = refl;
      };
      own = refl;
      says = refl;
      replies = sym (append-nil bytes);
    })
