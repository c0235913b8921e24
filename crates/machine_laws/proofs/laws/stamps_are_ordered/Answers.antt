use Rattle.machine_laws.proofs.Words.{stamps_are_ordered}
use Rattle.machine_laws.proofs.laws.stamps_are_ordered.Goals as goal

pub returns : goal.returns
returns c = stamps_are_ordered
