use Rattle.group_types.proofs.AcceptedOnce.{accepts_once}
use Rattle.group_types.proofs.laws.accepts_once.Goals as goal

pub returns : goal.returns
returns c = accepts_once
