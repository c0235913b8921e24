use Rattle.replica_worlds.proofs.Simulated.{led_to}
use Rattle.replica_worlds.proofs.laws.replica_worlds_are_worlds.Goals as goal

pub returns : goal.returns
returns c = led_to c.one_request_a_body.ensures c.one_answer.ensures c.every_act_keeps_the_invariant.ensures
