use Rattle.node_laws.proofs.OtherGroups.{other_groups_stay}
use Rattle.node_laws.proofs.laws.other_groups_stay.Goals as goal

pub returns : goal.returns
returns c = other_groups_stay
