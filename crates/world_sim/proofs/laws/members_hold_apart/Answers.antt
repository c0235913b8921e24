use Rattle.world_sim.proofs.Exclusive.{hold_apart, hold_granted}
use Rattle.world_sim.proofs.laws.members_hold_apart.Goals as goal

pub returns-clause-apart : goal.returns-clause-apart
returns-clause-apart c = λ salt clients acts outcomes w run. hold_apart w (c.every_act_keeps_the_invariant.ensures salt clients acts outcomes w run)

pub returns-clause-granted : goal.returns-clause-granted
returns-clause-granted c = λ salt clients acts outcomes w run. hold_granted w (c.every_act_keeps_the_invariant.ensures salt clients acts outcomes w run)
