use Rattle.std.proofs.Common.{sym, subst}
use Rattle.coord_node.specs.Nodes.{coordinator_of}
use Rattle.coord_node.specs.Steps.{Step}
use Rattle.coord_shards.specs.declared.incoming.Incoming.{Incoming}
use Rattle.coord_shards.specs.Events.{node_event, event_of}
use Rattle.coord_shards.proofs.incoming.Incoming.act.Goals as goal

pub returns-in_ok-answered-in-Frame-clause-acts : goal.returns-in_ok-answered-in-Frame-clause-acts
returns-in_ok-answered-in-Frame-clause-acts c =
    let h = c.in_ok-answered-in-Frame.ensures.step in (
      h.answer,
      (h.is_answered, h.bytes),
      subst (λ (i : Incoming). Step (coordinator_of c.args.node.now) (node_event (event_of i)) h.answer (coordinator_of c.answer_parsed.new.self)) (sym c.in-Frame.is) h.step,
    )
