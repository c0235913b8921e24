use Rattle.std.proofs.Common.{◌∙◌, ap}
use Rattle.coord_node.specs.Nodes.{coordinator_of}
use Rattle.world_sim.specs.Passing.{joins_forgotten}
use Rattle.world_sim.proofs.scene.delivering.is_forgotten.Goals as goal

pub returns-in-Some : goal.returns-in-Some
returns-in-Some c = λ v is.
    c.joins_forgotten.ensures ∙ ap (joins_forgotten (coordinator_of c.args.node.now)) (c.one_request_a_body.ensures _ v c.args.body.now c.in-Some.ensures.spells is.spells)
