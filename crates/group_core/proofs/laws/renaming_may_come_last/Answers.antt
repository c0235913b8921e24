use Rattle.group_core.proofs.Renamings.{renaming_may_come_last}
use Rattle.group_core.proofs.laws.renaming_may_come_last.Goals as goal

pub returns : goal.returns
returns c = renaming_may_come_last
