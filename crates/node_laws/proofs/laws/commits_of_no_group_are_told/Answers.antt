use Rattle.node_laws.proofs.OtherGroups.{commits_of_no_group_are_told}
use Rattle.node_laws.proofs.laws.commits_of_no_group_are_told.Goals as goal

pub returns : goal.returns
returns c = commits_of_no_group_are_told
