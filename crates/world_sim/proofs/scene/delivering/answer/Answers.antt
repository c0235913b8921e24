use Rattle.std.proofs.Common.{◌≤◌, ◌∙◌, List, ℕ, length, refl, sym, subst}
use Rattle.kip_msgs.specs.Values.{RequestValue, heartbeat_request, commit_request}
use Rattle.kip_msgs.specs.Spelling.{SpellsRequest}
use Rattle.group_types.specs.Limits.{LARGEST_BODY}
use Rattle.coord_node.specs.Coordinator.{Frame}
use Rattle.coord_node.specs.Nodes.{coordinator_of}
use Rattle.coord_node.specs.Answers.{Answers}
use Rattle.coord_node.specs.Steps.{IsRequest}
use Rattle.world_sim.proofs.Delivered.{commit_is_request}
use Rattle.world_sim.proofs.FullTurns.{heartbeat_is_request}
use Rattle.world_sim.proofs.scene.delivering.answer.Goals as goal

-- what encodes a request and is not too large is a request
is_request : (v : RequestValue) (body : List ℕ) → SpellsRequest v body → length body ≤ LARGEST_BODY → IsRequest v body
is_request (heartbeat_request header v) body spells most = heartbeat_is_request header v body spells most
is_request (commit_request header v) body spells most = commit_is_request header v body spells most

pub returns-then-is_forgotten-clause-came : goal.returns-then-is_forgotten-clause-came
returns-then-is_forgotten-clause-came c =
    record {
      forgotten = λ v spells.
          sym c.if-is_forgotten.true
          ∙ c.is_forgotten.ensures v (subst (IsRequest v) (sym (c.in_ok-body.ensures.bytes ∙ c.body.ensures)) (is_request v c.args.request.now.frame spells c.args.request.now.small));
      step = refl;
    }

pub returns-clause-came : goal.returns-clause-came
returns-clause-came c =
    let body = c.in_ok-body.ensures.bytes ∙ c.body.ensures in
    record {
      forgotten = λ v spells.
          sym c.if-is_forgotten.false
          ∙ c.is_forgotten.ensures v (subst (IsRequest v) (sym body) (is_request v c.args.request.now.frame spells c.args.request.now.small));
      step =
          subst (λ (b : List ℕ). Answers (coordinator_of c.args.node.now) (Frame b c.args.request.now.stamp c.args.clock) c.in_ok-answered.answered (coordinator_of c.answer_parsed.new.self) c.args.out.now.items c.answer_parsed.new.out.items)
          body c.in_ok-answered.ensures.step;
    }
