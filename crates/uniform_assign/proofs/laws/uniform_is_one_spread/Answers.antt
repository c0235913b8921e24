use Rattle.uniform_assign.proofs.OneSpread.{uniform_is_one_spread}
use Rattle.uniform_assign.proofs.laws.uniform_is_one_spread.Goals as goal

pub returns : goal.returns
returns c = uniform_is_one_spread
