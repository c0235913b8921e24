use Rattle.range_assign.proofs.Lawful.{range_is_lawful}
use Rattle.range_assign.proofs.laws.range_is_lawful.Goals as goal

pub returns : goal.returns
returns c = range_is_lawful
