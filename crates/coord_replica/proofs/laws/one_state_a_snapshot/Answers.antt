use Rattle.coord_replica.proofs.SnapshotLaws.{one_state}
use Rattle.coord_replica.proofs.laws.one_state_a_snapshot.Goals as goal

pub returns : goal.returns
returns c = one_state
