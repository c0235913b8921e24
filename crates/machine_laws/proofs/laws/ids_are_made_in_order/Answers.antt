use Rattle.machine_laws.proofs.Ids.{ids_are_made_in_order}
use Rattle.machine_laws.proofs.laws.ids_are_made_in_order.Goals as goal

pub returns : goal.returns
returns c = ids_are_made_in_order
