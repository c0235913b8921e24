use Rattle.world_sim.proofs.SomeOutcome.{acts_have_an_outcome}
use Rattle.world_sim.proofs.laws.acts_have_an_outcome.Goals as goal

pub returns : goal.returns
returns c =
    acts_have_an_outcome c.every_group_is_sound.ensures c.steps_are_sound.ensures c.heartbeats_have_an_answer.ensures c.asks_are_made.ensures c.one_reply_a_body.ensures
