use Rattle.world_sim.proofs.ThreeRounds.{settling_settles}
use Rattle.world_sim.proofs.laws.three_rounds_settle.Goals as goal

pub returns : goal.returns
returns c = λ salt clients acts outcomes w run.
    settling_settles c.one_request_a_body.ensures c.one_reply_a_body.ensures c.steps_are_sound.ensures c.every_group_is_sound.ensures w
    (c.every_act_keeps_the_invariant.ensures salt clients acts outcomes w run)
