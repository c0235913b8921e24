use Rattle.std.proofs.Common.{refl, ◌∙◌}
use Rattle.world_sim.proofs.Fits.{fits_in}
use Rattle.world_sim.proofs.scene.Scene.fits_group.Goals as goal

pub returns-then-as_u32-lt-GREATEST_EPOCH : goal.returns-then-as_u32-lt-GREATEST_EPOCH
returns-then-as_u32-lt-GREATEST_EPOCH c =
    fits_in c.args.client.now c.args.id.now c.args.group.now.state c.args.self.now.clients.items c.in-Some.epochs c.group.result.now c.epoch.result c.as_u32.result c.count_in.result c.members.result
    c.in-Some.ensures c.epoch.ensures (c.if-not-is_known.ensures.0 refl) (c.as_u32.ensures.value ∙ c.epoch-2.ensures.value) c.if-as_u32-lt-GREATEST_EPOCH.true c.group.ensures c.count_in.ensures c.members.ensures
