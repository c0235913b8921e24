use Rattle.group_types.proofs.ByHand.{codes_are_the_guides}
use Rattle.group_types.proofs.laws.codes_are_the_guides.Goals as goal

pub returns : goal.returns
returns c = codes_are_the_guides
