use Rattle.coord_replica.proofs.SnapshotLaws.{sections_make}
use Rattle.coord_replica.proofs.laws.sections_make_a_snapshot.Goals as goal

pub returns : goal.returns
returns c = sections_make
