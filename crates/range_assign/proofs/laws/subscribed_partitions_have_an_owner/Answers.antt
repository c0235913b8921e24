use Rattle.range_assign.proofs.Lawful.{subscribed_partitions_have_an_owner}
use Rattle.range_assign.proofs.laws.subscribed_partitions_have_an_owner.Goals as goal

pub returns : goal.returns
returns c = subscribed_partitions_have_an_owner
