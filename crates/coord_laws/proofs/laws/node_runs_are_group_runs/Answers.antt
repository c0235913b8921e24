use Rattle.coord_laws.proofs.GroupRuns.{node_runs}
use Rattle.coord_laws.proofs.laws.node_runs_are_group_runs.Goals as goal

pub returns : goal.returns
returns c = node_runs c.steps_are_sound.ensures
