use Rattle.coord_replica.proofs.Runs.{replicas_are_runs}
use Rattle.coord_replica.proofs.laws.replicas_are_runs.Goals as goal

pub returns : goal.returns
returns c = replicas_are_runs
