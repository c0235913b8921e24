use Rattle.member_core.proofs.Outcomes.{release_leaves}
use Rattle.member_core.proofs.laws.releases_leave_the_rest.Goals as goal

pub returns : goal.returns
returns c = release_leaves
