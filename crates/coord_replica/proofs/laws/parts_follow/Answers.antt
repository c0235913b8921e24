use Rattle.coord_replica.proofs.SnapshotLaws.{parts_follow}
use Rattle.coord_replica.proofs.laws.parts_follow.Goals as goal

pub returns : goal.returns
returns c = parts_follow
