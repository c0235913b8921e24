use Rattle.coord_replica.proofs.CatchesUp.{every_replica_catches_up}
use Rattle.coord_replica.proofs.laws.every_replica_catches_up.Goals as goal

pub returns : goal.returns
returns c = every_replica_catches_up c.one_answer.ensures c.events_are_answered.ensures
