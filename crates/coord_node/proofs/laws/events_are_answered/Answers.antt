use Rattle.coord_node.proofs.AnsweredEvents.{events_are_answered}
use Rattle.coord_node.proofs.laws.events_are_answered.Goals as goal

pub returns : goal.returns
returns c = events_are_answered c.every_group_is_sound.ensures c.steps_are_sound.ensures c.heartbeats_have_an_answer.ensures
