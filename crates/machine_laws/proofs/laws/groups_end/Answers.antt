use Rattle.machine_laws.proofs.Ends.{groups_end}
use Rattle.machine_laws.proofs.laws.groups_end.Goals as goal

pub returns : goal.returns
returns c = groups_end
