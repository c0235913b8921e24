use Rattle.coord_replica.proofs.Leaders.{deposed_leaders_follow}
use Rattle.coord_replica.proofs.laws.deposed_leaders_follow.Goals as goal

pub returns : goal.returns
returns c = deposed_leaders_follow
