use Rattle.member_core.proofs.Answered.{asks_are_made}
use Rattle.member_core.proofs.laws.asks_are_made.Goals as goal

pub returns : goal.returns
returns c = asks_are_made
