use Rattle.machine_laws.proofs.Holdings.{members_hold_what_is_free}
use Rattle.machine_laws.proofs.laws.members_hold_what_is_free.Goals as goal

pub returns : goal.returns
returns c = members_hold_what_is_free
