use Rattle.replica_worlds.proofs.Logged.{worlds_follow}
use Rattle.replica_worlds.proofs.laws.worlds_follow_their_log.Goals as goal

pub returns : goal.returns
returns c = worlds_follow
