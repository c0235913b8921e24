use Rattle.coord_replica.proofs.Taken.{proposals_are_taken}
use Rattle.coord_replica.proofs.laws.proposals_are_taken.Goals as goal

pub returns : goal.returns
returns c = proposals_are_taken
