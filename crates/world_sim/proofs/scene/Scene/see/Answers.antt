use Rattle.std.proofs.Common.{List, ap, refl, sym}
use Rattle.coord_node.specs.Coordinator.{Done}
use Rattle.coord_node.specs.Nodes.{coordinator_of}
use Rattle.world_sim.specs.World.{Commit}
use Rattle.world_sim.specs.Acts.{IsDone}
use Rattle.world_sim.specs.Scene.{scene_view}
use Rattle.world_sim.proofs.Granted.{image_grants, uncut}
use Rattle.world_sim.proofs.scene.Scene.see.Goals as goal

pub returns : goal.returns
returns c =
    let w = scene_view c.args.self.now in
    let new = coordinator_of c.set_image.new.self in
    let seen = ap coordinator_of c.set_image.ensures.value in
    let same = uncut w c.requires new (image_grants w.coordinator new c.args.image (Done 0) (refl, seen, c.set_image.ensures.sound)) in (
      IsDone,
      (
        new,
        (refl, seen, c.set_image.ensures.sound),
        (refl, ap (λ (ks : List Commit). record w { coordinator = new; commits = ks }) (sym same)),
      ),
      refl,
    )
