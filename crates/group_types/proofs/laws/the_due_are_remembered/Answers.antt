use Rattle.group_types.proofs.DueMembers.{the_due_are_remembered}
use Rattle.group_types.proofs.laws.the_due_are_remembered.Goals as goal

pub returns : goal.returns
returns c = the_due_are_remembered
