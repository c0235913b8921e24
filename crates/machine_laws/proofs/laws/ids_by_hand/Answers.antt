use Rattle.machine_laws.proofs.Words.{ids_by_hand}
use Rattle.machine_laws.proofs.laws.ids_by_hand.Goals as goal

pub returns : goal.returns
returns c = ids_by_hand
