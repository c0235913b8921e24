use Rattle.machine_laws.proofs.Words.{assignors_are_named}
use Rattle.machine_laws.proofs.laws.assignors_are_named.Goals as goal

pub returns : goal.returns
returns c = assignors_are_named
