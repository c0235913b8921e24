use Rattle.replica_snapshots.proofs.Serving.{runs_can_be_nodes}
use Rattle.replica_snapshots.proofs.laws.runs_can_be_nodes.Goals as goal

pub returns : goal.returns
returns c = runs_can_be_nodes
