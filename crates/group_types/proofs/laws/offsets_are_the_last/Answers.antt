use Rattle.group_types.proofs.OffsetLemmas.{offsets_are_the_last}
use Rattle.group_types.proofs.laws.offsets_are_the_last.Goals as goal

pub returns : goal.returns
returns c = offsets_are_the_last
