use Rattle.member_core.proofs.Answered.{replies_have_an_outcome}
use Rattle.member_core.proofs.laws.replies_have_an_outcome.Goals as goal

pub returns : goal.returns
returns c = replies_have_an_outcome c.one_reply_a_body.ensures
