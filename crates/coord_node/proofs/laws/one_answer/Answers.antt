use Rattle.coord_node.proofs.OneAnswer.{same_step}
use Rattle.coord_node.proofs.laws.one_answer.Goals as goal

pub returns : goal.returns
returns c = same_step c.one_request_a_body.ensures c.heartbeats_have_one_answer.ensures
