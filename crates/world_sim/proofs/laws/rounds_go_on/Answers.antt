use Rattle.world_sim.proofs.Goings.{rounds_go_on, rounds_keep_clients}
use Rattle.world_sim.proofs.laws.rounds_go_on.Goals as goal

pub returns-clause-go : goal.returns-clause-go
returns-clause-go c = λ salt clients acts outcomes w run.
    rounds_go_on c.one_request_a_body.ensures c.one_reply_a_body.ensures c.steps_are_sound.ensures c.every_group_is_sound.ensures w
    (c.every_act_keeps_the_invariant.ensures salt clients acts outcomes w run)

pub returns-clause-clients : goal.returns-clause-clients
returns-clause-clients c = λ salt clients acts outcomes w run.
    rounds_keep_clients c.one_request_a_body.ensures c.one_reply_a_body.ensures c.steps_are_sound.ensures c.every_group_is_sound.ensures w
    (c.every_act_keeps_the_invariant.ensures salt clients acts outcomes w run)
