use Rattle.replica_snapshots.proofs.Serving.{runs_can_be_nodes}
use Rattle.coord_replica.specs.Applying.{answers_given, entries_taken}
use Rattle.coord_replica.specs.Entries.{events_of}
use Rattle.coord_replica.proofs.Runs.{replicas_are_runs}
use Rattle.coord_replica.proofs.laws.logs_can_be_restored.Goals as goal

pub returns : goal.returns
returns c = λ salt log fates s run.
    runs_can_be_nodes salt (events_of (entries_taken log fates)) (answers_given fates) s.coordinator (replicas_are_runs salt log fates s run).run
