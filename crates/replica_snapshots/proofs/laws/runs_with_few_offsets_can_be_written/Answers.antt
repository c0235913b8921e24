use Rattle.replica_snapshots.proofs.FitRuns.{runs_can_be_written}
use Rattle.replica_snapshots.proofs.laws.runs_with_few_offsets_can_be_written.Goals as goal

pub returns : goal.returns
returns c = runs_can_be_written c.steps_are_sound.ensures
