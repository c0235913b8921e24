use Rattle.machine_laws.proofs.ReplyFields.{replies_are_these}
use Rattle.machine_laws.proofs.laws.replies_are_these.Goals as goal

pub returns : goal.returns
returns c = replies_are_these
