use Rattle.std.proofs.Common.{sym, ◌∙◌}
use Rattle.kip_msgs.proofs.laws.one_body_a_message.Goals as goal

pub returns-clause-request : goal.returns-clause-request
returns-clause-request c = λ v one other a b. a.bytes ∙ sym b.bytes

pub returns-clause-reply : goal.returns-clause-reply
returns-clause-reply c = λ v one other a b. a.bytes ∙ sym b.bytes
