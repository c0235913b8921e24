use Rattle.std.proofs.Common.{subst}
use Rattle.world_sim.specs.World.{World}
use Rattle.world_sim.specs.Acting.{Acted, act_value}
use Rattle.world_sim.specs.Scene.{scene_view}
use Rattle.world_sim.proofs.Reaching.{acted_lawfully, acted_reaches}
use Rattle.world_sim.proofs.world.World.act.Goals as goal

pub invariant_of-self : goal.invariant_of-self
invariant_of-self c = acted_reaches _ _ (act_value c.args.act) c.act-shown.result c.self.invariant c.act-shown.ensures

pub returns-clause-step : goal.returns-clause-step
returns-clause-step c = subst (λ (old : World). Acted old (act_value c.args.act) c.act-shown.result (scene_view c.act-shown.new.self)) c.self.view_is c.act-shown.ensures

pub returns-clause-lawful : goal.returns-clause-lawful
returns-clause-lawful c =
    acted_lawfully c.args.self.now (scene_view c.act-shown.new.self) (act_value c.args.act) c.act-shown.result c.hold.ensures.lawful
    (subst (λ (old : World). Acted old (act_value c.args.act) c.act-shown.result (scene_view c.act-shown.new.self)) c.self.view_is c.act-shown.ensures)
