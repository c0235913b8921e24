use Rattle.replica_snapshots.proofs.GroupLaws.{node_begins}
use Rattle.replica_snapshots.proofs.laws.one_node_a_run.Goals as goal

pub returns : goal.returns
returns c = node_begins.holds
