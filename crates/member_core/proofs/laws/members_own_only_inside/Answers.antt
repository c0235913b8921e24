use Rattle.member_core.proofs.Outcomes.{own_only_inside}
use Rattle.member_core.proofs.laws.members_own_only_inside.Goals as goal

pub returns : goal.returns
returns c = own_only_inside
