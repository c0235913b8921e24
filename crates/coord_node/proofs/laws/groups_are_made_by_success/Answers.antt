use Rattle.coord_node.proofs.MadeGroups.{groups_are_made_by_success}
use Rattle.coord_node.proofs.laws.groups_are_made_by_success.Goals as goal

pub returns : goal.returns
returns c = groups_are_made_by_success
