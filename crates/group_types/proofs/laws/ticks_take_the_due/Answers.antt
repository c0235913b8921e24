use Rattle.group_types.proofs.DueMembers.{ticks_take_the_due}
use Rattle.group_types.proofs.laws.ticks_take_the_due.Goals as goal

pub returns : goal.returns
returns c = ticks_take_the_due
