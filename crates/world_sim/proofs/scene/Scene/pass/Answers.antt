use Rattle.std.proofs.Common.{List, ap, refl}
use Rattle.coord_node.specs.Nodes.{coordinator_of}
use Rattle.world_sim.specs.World.{Commit}
use Rattle.world_sim.specs.Acts.{IsRemoved}
use Rattle.world_sim.specs.Scene.{scene_view}
use Rattle.world_sim.proofs.Granted.{tick_grants, uncut}
use Rattle.world_sim.proofs.MailLemmas.{small_cut}
use Rattle.world_sim.proofs.scene.Scene.pass.Goals as goal

pub cut_after-requires : goal.cut_after-requires
cut_after-requires c none =
    let w = scene_view c.args.self.now in
    uncut w c.requires (coordinator_of c.tick-members.new.self) (tick_grants w.coordinator (coordinator_of c.tick-members.new.self) c.args.moment c.tick-members.result c.tick-members.ensures none)

pub invariant_of-self : goal.invariant_of-self
invariant_of-self c = record { named = c.args.self.now.named; small = small_cut (coordinator_of c.tick-members.new.self) c.args.self.now.commits.items c.cut_after.new.commits.items c.args.self.now.small c.cut_after.ensures }

pub returns : goal.returns
returns c = (
  IsRemoved c.tick-members.result,
  (
    c.tick-members.result,
    coordinator_of c.tick-members.new.self,
    c.tick-members.ensures,
    (refl, ap (λ (ks : List Commit). record (scene_view c.args.self.now) { coordinator = coordinator_of c.tick-members.new.self; clock = c.args.moment; commits = ks }) c.cut_after.ensures),
  ),
  refl,
)
