use Rattle.coord_node.proofs.AnsweredEvents.{runs_are_answered}
use Rattle.coord_node.proofs.laws.runs_are_answered.Goals as goal

pub returns : goal.returns
returns c = runs_are_answered c.events_are_answered.ensures
