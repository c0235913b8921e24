use Rattle.replica_snapshots.proofs.NodeLaws.{one_coordinator}
use Rattle.replica_snapshots.proofs.laws.one_coordinator_a_run.Goals as goal

pub returns : goal.returns
returns c = one_coordinator
