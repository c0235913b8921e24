use Rattle.coord_replica.proofs.SnapshotLaws.{all_parts}
use Rattle.coord_replica.proofs.laws.all_parts_are_the_snapshot.Goals as goal

pub returns : goal.returns
returns c = all_parts
