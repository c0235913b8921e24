use Rattle.coord_replica.proofs.Leaders.{leaderships_begin_quietly}
use Rattle.coord_replica.proofs.laws.leaderships_begin_quietly.Goals as goal

pub returns : goal.returns
returns c = leaderships_begin_quietly
