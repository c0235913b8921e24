use Rattle.std.proofs.Common.{length, ap, refl}
use Rattle.world_sim.specs.Scene.{scene_view}
use Rattle.world_sim.proofs.Performs.{nobody_releases}
use Rattle.world_sim.proofs.SceneActs.{nobody, releases_any}
use Rattle.world_sim.proofs.scene.Scene.release.Goals as goal

pub returns-in_default : goal.returns-in_default
returns-in_default c = (nobody_releases (scene_view c.args.self.now) c.args.number (nobody _ _ _ (ap length c.as_slice.ensures.value) c.in_default.ensures) c.args.p.now, refl)

pub returns : goal.returns
returns c = releases_any c.args.self.now c.args.number c.in-Some.place c.in-Some.ensures.0 c.args.p.now c.release_at-state.result c.change_shown.result c.release_at-state.new.clients.items c.change_shown.ensures c.release_at-state.ensures
