use Rattle.coord_replica.proofs.SnapshotLaws.{restored_follows}
use Rattle.coord_replica.proofs.laws.restored_follows_the_log.Goals as goal

pub returns : goal.returns
returns c = restored_follows
