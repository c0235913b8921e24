use Rattle.std.proofs.Common.{refl}
use Rattle.coord_node.specs.Nodes.{coordinator_of}
use Rattle.world_sim.proofs.Fits.{is_fit_so}
use Rattle.world_sim.proofs.scene.Scene.is_fit.Goals as goal

pub returns : goal.returns
returns c =
    is_fit_so (coordinator_of c.args.self.now.node) c.args.self.now.clients.items c.args.client.now c.in-Some.id.now c.in-Some-group.group.now.state c.group.result.now c.requests.result c.fits_group.result
    (c.if-not-is_idle.ensures.0 refl) c.requests.ensures c.if-requests-gt-MOST_REQUESTS.false c.in-Some.ensures c.group.ensures c.in-Some-group.ensures c.fits_group.ensures
