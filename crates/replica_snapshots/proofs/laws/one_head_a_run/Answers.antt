use Rattle.replica_snapshots.proofs.GroupLaws.{head_begins}
use Rattle.replica_snapshots.proofs.laws.one_head_a_run.Goals as goal

pub returns : goal.returns
returns c = head_begins.holds
