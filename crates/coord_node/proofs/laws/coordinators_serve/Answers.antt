use Rattle.coord_node.proofs.AnsweredEvents.{coordinators_serve}
use Rattle.coord_node.proofs.laws.coordinators_serve.Goals as goal

pub returns : goal.returns
returns c = coordinators_serve c.steps_are_sound.ensures
