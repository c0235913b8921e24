use Rattle.coord_replica.proofs.Histories.{replicas_follow}
use Rattle.coord_replica.proofs.laws.replicas_follow_the_log.Goals as goal

pub returns : goal.returns
returns c = replicas_follow
