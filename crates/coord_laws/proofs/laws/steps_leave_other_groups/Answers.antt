use Rattle.coord_laws.proofs.GroupRuns.{leave_others}
use Rattle.coord_laws.proofs.laws.steps_leave_other_groups.Goals as goal

pub returns : goal.returns
returns c = leave_others
