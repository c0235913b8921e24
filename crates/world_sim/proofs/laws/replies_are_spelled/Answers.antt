use Rattle.world_sim.proofs.Replies.{always_spelled}
use Rattle.world_sim.proofs.laws.replies_are_spelled.Goals as goal

pub returns : goal.returns
returns c = always_spelled
