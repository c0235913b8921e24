use Rattle.coord_replica.proofs.Histories.{one_state_a_place}
use Rattle.coord_replica.proofs.laws.replicas_at_a_place_are_the_same.Goals as goal

pub returns : goal.returns
returns c = one_state_a_place c.one_answer.ensures
