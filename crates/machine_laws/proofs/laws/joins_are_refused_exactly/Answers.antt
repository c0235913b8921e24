use Rattle.machine_laws.proofs.ExactCodes.{joins_are_refused_exactly}
use Rattle.machine_laws.proofs.laws.joins_are_refused_exactly.Goals as goal

pub returns : goal.returns
returns c = joins_are_refused_exactly
