use Rattle.group_types.proofs.ClocksGo.{clocks_go_on}
use Rattle.group_types.proofs.laws.clocks_go_on.Goals as goal

pub returns : goal.returns
returns c = clocks_go_on
