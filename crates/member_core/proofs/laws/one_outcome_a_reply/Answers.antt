use Rattle.member_core.proofs.Outcomes.{one_outcome}
use Rattle.member_core.proofs.laws.one_outcome_a_reply.Goals as goal

pub returns : goal.returns
returns c = one_outcome c.one_reply_a_body.ensures
