use Rattle.machine_laws.proofs.FormerMembers.{former_members_stay}
use Rattle.machine_laws.proofs.laws.former_members_stay.Goals as goal

pub returns : goal.returns
returns c = former_members_stay
