use Rattle.world_sim.proofs.Renewed.{acts_lawfully}
use Rattle.world_sim.proofs.laws.targets_are_renewed_lawfully.Goals as goal

pub returns : goal.returns
returns c = λ salt clients acts outcomes w run.
    acts_lawfully c.assignors_are_lawful.ensures c.every_group_is_sound.ensures w
    (c.every_act_keeps_the_invariant.ensures salt clients acts outcomes w run)
