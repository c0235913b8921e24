use Rattle.group_types.proofs.Leavers.{leavers_are_remembered}
use Rattle.group_types.proofs.laws.leavers_are_remembered.Goals as goal

pub returns : goal.returns
returns c = leavers_are_remembered
