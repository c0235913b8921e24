use Rattle.world_sim.specs.Exclusivity.{HoldApart, HoldGranted}
use Rattle.replica_worlds.proofs.Carried.{apart_back, granted_if_held}
use Rattle.replica_worlds.proofs.Simulated.{always_back}
use Rattle.replica_worlds.proofs.laws.members_hold_apart_over_replicas.Goals as goal

pub returns-clause-apart : goal.returns-clause-apart
returns-clause-apart c = always_back c.one_request_a_body.ensures c.one_answer.ensures c.every_act_keeps_the_invariant.ensures HoldApart apart_back c.members_hold_apart.ensures.apart

pub returns-clause-granted : goal.returns-clause-granted
returns-clause-granted c = always_back c.one_request_a_body.ensures c.one_answer.ensures c.every_act_keeps_the_invariant.ensures HoldGranted granted_if_held c.members_hold_apart.ensures.granted
