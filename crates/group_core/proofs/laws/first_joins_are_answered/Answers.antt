use Rattle.group_core.proofs.Answered.{answered}
use Rattle.group_core.proofs.laws.first_joins_are_answered.Goals as goal

pub returns : goal.returns
returns c = answered
