use Rattle.world_sim.specs.Exclusivity.{ShowGranted}
use Rattle.replica_worlds.proofs.Carried.{granted_if_shown}
use Rattle.replica_worlds.proofs.Simulated.{always_back}
use Rattle.replica_worlds.proofs.laws.replies_show_what_is_granted_over_replicas.Goals as goal

pub returns : goal.returns
returns c = always_back c.one_request_a_body.ensures c.one_answer.ensures c.every_act_keeps_the_invariant.ensures ShowGranted granted_if_shown c.replies_show_what_is_granted.ensures
