use Rattle.machine_laws.proofs.UnknownMembers.{unknown_members_are_told}
use Rattle.machine_laws.proofs.laws.unknown_members_are_told.Goals as goal

pub returns : goal.returns
returns c = unknown_members_are_told
