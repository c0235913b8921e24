use Rattle.replica_worlds.proofs.TwoLeaderships.{somebody_holds_over_leaderships}
use Rattle.replica_worlds.proofs.laws.the_laws_are_met_over_replicas.Goals as goal

pub returns : goal.returns
returns c = somebody_holds_over_leaderships
