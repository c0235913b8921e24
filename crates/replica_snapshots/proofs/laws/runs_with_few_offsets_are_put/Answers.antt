use Rattle.replica_snapshots.proofs.FitRuns.{runs_are_put}
use Rattle.replica_snapshots.proofs.laws.runs_with_few_offsets_are_put.Goals as goal

pub returns : goal.returns
returns c = runs_are_put c.steps_are_sound.ensures
