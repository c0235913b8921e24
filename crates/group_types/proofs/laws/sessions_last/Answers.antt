use Rattle.group_types.proofs.Sessions.{sessions_last}
use Rattle.group_types.proofs.laws.sessions_last.Goals as goal

pub returns : goal.returns
returns c = sessions_last
