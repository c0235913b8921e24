use Rattle.world_sim.proofs.Turning.{settling_reaches}
use Rattle.world_sim.proofs.world.World.settle.Goals as goal

pub invariant_of-self : goal.invariant_of-self
invariant_of-self c = settling_reaches _ _ c.make_rounds-settled.result c.self.invariant c.make_rounds-settled.ensures
