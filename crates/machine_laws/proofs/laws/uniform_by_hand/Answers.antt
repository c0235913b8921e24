use Rattle.machine_laws.proofs.UniformByHand.{uniform_by_hand}
use Rattle.machine_laws.proofs.laws.uniform_by_hand.Goals as goal

pub returns : goal.returns
returns c = uniform_by_hand c.uniform_is_one_spread.ensures
