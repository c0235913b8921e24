use Rattle.world_sim.proofs.EveryAct.{always_keeps}
use Rattle.world_sim.proofs.laws.every_act_keeps_the_invariant.Goals as goal

pub returns : goal.returns
returns c =
    always_keeps c.one_request_a_body.ensures c.one_reply_a_body.ensures c.steps_are_sound.ensures c.every_group_is_sound.ensures
