use Rattle.group_types.proofs.FencedExactly.{fences_the_late}
use Rattle.group_types.proofs.laws.fences_the_late.Goals as goal

pub returns : goal.returns
returns c = fences_the_late
