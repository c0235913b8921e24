use Rattle.coord_replica.proofs.Histories.{answers_are_the_logs}
use Rattle.coord_replica.proofs.laws.answers_are_the_logs.Goals as goal

pub returns : goal.returns
returns c = answers_are_the_logs
