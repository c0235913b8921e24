use Rattle.kip_msgs.proofs.RequestLaws.{spells_read}
use Rattle.kip_msgs.proofs.laws.one_request_a_body.Goals as goal

pub returns : goal.returns
returns c = λ v w body one other.
    let a = spells_read body v one in
    let b = spells_read body w other in
    cc
