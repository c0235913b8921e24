use Rattle.coord_replica.proofs.SnapshotLaws.{restored_same}
use Rattle.coord_replica.proofs.laws.restored_is_written_the_same.Goals as goal

pub returns : goal.returns
returns c = restored_same
