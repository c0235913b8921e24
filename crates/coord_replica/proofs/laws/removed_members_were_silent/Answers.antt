use Rattle.coord_replica.proofs.Removed.{removed_were_silent}
use Rattle.coord_replica.proofs.laws.removed_members_were_silent.Goals as goal

pub returns : goal.returns
returns c = removed_were_silent c.ticks_are_of_all_groups.ensures c.ticks_take_the_due.ensures
