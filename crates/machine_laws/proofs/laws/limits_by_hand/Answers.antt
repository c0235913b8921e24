use Rattle.machine_laws.proofs.Words.{limits_by_hand}
use Rattle.machine_laws.proofs.laws.limits_by_hand.Goals as goal

pub returns : goal.returns
returns c = limits_by_hand
