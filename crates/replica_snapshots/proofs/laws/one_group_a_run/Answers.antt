use Rattle.replica_snapshots.proofs.GroupLaws.{named_begins}
use Rattle.replica_snapshots.proofs.laws.one_group_a_run.Goals as goal

pub returns : goal.returns
returns c = named_begins.holds
