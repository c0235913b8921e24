use Rattle.coord_replica.proofs.Histories.{one_answer_a_place}
use Rattle.coord_replica.proofs.laws.one_answer_a_place.Goals as goal

pub returns : goal.returns
returns c = one_answer_a_place c.one_answer.ensures
