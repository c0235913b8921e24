use Rattle.replica_worlds.proofs.HappensNext.{renew_lawfully}
use Rattle.replica_worlds.proofs.laws.targets_are_renewed_lawfully_over_replicas.Goals as goal

pub returns : goal.returns
returns c = renew_lawfully c.one_request_a_body.ensures c.one_answer.ensures c.every_act_keeps_the_invariant.ensures c.targets_are_renewed_lawfully.ensures
