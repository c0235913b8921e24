use Rattle.world_sim.proofs.Exclusive.{show_granted}
use Rattle.world_sim.proofs.laws.replies_show_what_is_granted.Goals as goal

pub returns : goal.returns
returns c = λ salt clients acts outcomes w run. show_granted w (c.every_act_keeps_the_invariant.ensures salt clients acts outcomes w run)
