use Rattle.world_sim.proofs.NewWorlds.{new_worlds_are_live}
use Rattle.world_sim.proofs.laws.new_worlds_are_live.Goals as goal

pub returns : goal.returns
returns c = new_worlds_are_live
