use Rattle.coord_replica.proofs.Falls.{logs_never_fall}
use Rattle.coord_replica.proofs.laws.logs_never_fall.Goals as goal

pub returns : goal.returns
returns c = logs_never_fall
