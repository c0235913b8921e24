use Rattle.uniform_assign.proofs.Soundness.{uniform_is_even}
use Rattle.uniform_assign.proofs.laws.uniform_is_even.Goals as goal

pub returns : goal.returns
returns c = uniform_is_even
