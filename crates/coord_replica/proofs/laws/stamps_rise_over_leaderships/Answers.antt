use Rattle.coord_replica.proofs.Stamps.{stamps_rise}
use Rattle.coord_replica.proofs.laws.stamps_rise_over_leaderships.Goals as goal

pub returns : goal.returns
returns c = stamps_rise
