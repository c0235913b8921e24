use Rattle.uniform_assign.proofs.SomeSpread.{uniform_has_a_spread}
use Rattle.uniform_assign.proofs.laws.uniform_has_a_spread.Goals as goal

pub returns : goal.returns
returns c = uniform_has_a_spread
