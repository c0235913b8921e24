use Rattle.coord_replica.proofs.Written.{logs_are_put}
use Rattle.coord_replica.proofs.laws.logs_with_few_offsets_can_be_written.Goals as goal

pub returns : goal.returns
returns c = logs_are_put c.runs_with_few_offsets_can_be_written.ensures
