use Rattle.world_sim.proofs.SettlingEnds.{settling_ends}
use Rattle.world_sim.proofs.laws.settling_ends.Goals as goal

pub returns : goal.returns
returns c =
    settling_ends c.acts_have_an_outcome.ensures c.acts_leave_live_worlds.ensures c.rounds_go_on.ensures.go c.rounds_go_on.ensures.clients c.three_rounds_settle.ensures
