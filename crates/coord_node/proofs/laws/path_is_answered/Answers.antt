use Rattle.coord_node.proofs.FirstJoin.{answers_first_joins}
use Rattle.coord_node.proofs.laws.path_is_answered.Goals as goal

pub returns : goal.returns
returns c = answers_first_joins c.one_request_a_body.ensures
