use Rattle.replica_worlds.proofs.Logged.{replicas_make}
use Rattle.replica_worlds.proofs.laws.replicas_make_the_world.Goals as goal

pub returns : goal.returns
returns c = replicas_make c.same_entries_same_replica.ensures c.replicas_follow_the_log.ensures c.answers_are_the_logs.ensures
