use Rattle.coord_replica.proofs.Same.{same_run}
use Rattle.coord_replica.proofs.laws.same_entries_same_replica.Goals as goal

pub returns : goal.returns
returns c = same_run c.one_answer.ensures
