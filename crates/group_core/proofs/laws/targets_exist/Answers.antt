use Rattle.group_core.proofs.SomeTarget.{targets_exist}
use Rattle.group_core.proofs.laws.targets_exist.Goals as goal

pub returns : goal.returns
returns c = targets_exist
