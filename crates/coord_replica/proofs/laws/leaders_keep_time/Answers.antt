use Rattle.coord_replica.proofs.Leaders.{leaders_keep_time}
use Rattle.coord_replica.proofs.laws.leaders_keep_time.Goals as goal

pub returns : goal.returns
returns c = leaders_keep_time
