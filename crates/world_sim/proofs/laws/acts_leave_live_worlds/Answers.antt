use Rattle.world_sim.proofs.LiveActs.{acts_leave_live_worlds}
use Rattle.world_sim.proofs.laws.acts_leave_live_worlds.Goals as goal

pub returns : goal.returns
returns c = acts_leave_live_worlds c.steps_are_sound.ensures
