use Rattle.coord_node.proofs.MadeGroups.{ticks_are_of_all_groups}
use Rattle.coord_node.proofs.laws.ticks_are_of_all_groups.Goals as goal

pub returns : goal.returns
returns c = ticks_are_of_all_groups
