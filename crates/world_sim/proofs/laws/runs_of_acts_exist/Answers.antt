use Rattle.world_sim.proofs.LiveRuns.{runs_of_acts_exist}
use Rattle.world_sim.proofs.laws.runs_of_acts_exist.Goals as goal

pub returns : goal.returns
returns c = runs_of_acts_exist c.acts_have_an_outcome.ensures c.acts_leave_live_worlds.ensures
