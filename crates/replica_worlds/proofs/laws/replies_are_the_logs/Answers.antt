use Rattle.replica_worlds.proofs.Replied.{replies_are_the_logs}
use Rattle.replica_worlds.proofs.laws.replies_are_the_logs.Goals as goal

pub returns : goal.returns
returns c = replies_are_the_logs
