use Rattle.std.proofs.Common.{length, ap, refl}
use Rattle.world_sim.specs.Scene.{scene_view}
use Rattle.world_sim.proofs.Performs.{nobody_gives_up}
use Rattle.world_sim.proofs.SceneActs.{gives_up_any, nobody}
use Rattle.world_sim.proofs.scene.Scene.give_up.Goals as goal

pub returns-in_default : goal.returns-in_default
returns-in_default c = (nobody_gives_up (scene_view c.args.self.now) c.args.number (nobody _ _ _ (ap length c.as_slice.ensures.value) c.in_default.ensures), refl)

pub returns : goal.returns
returns c = gives_up_any c.args.self.now c.args.number c.in-Some.place c.in-Some.ensures.0 c.give_up_at-state.result c.change_shown.result c.give_up_at-state.new.clients.items c.change_shown.ensures c.give_up_at-state.ensures
