use Rattle.std.proofs.Common.{refl}
use Rattle.kip_msgs.specs.Values.{reply_api}
use Rattle.kip_msgs.proofs.ReplyLaws.{spells_read}
use Rattle.kip_msgs.proofs.laws.one_reply_a_body.Goals as goal

pub returns : goal.returns
returns c = λ v w body same one other.
    let a = spells_read (reply_api w) body v same one in
    let b = spells_read (reply_api w) body w refl other in
    cc
