use Rattle.coord_replica.proofs.Clocks.{clocks_follow_the_log}
use Rattle.coord_replica.proofs.laws.clocks_follow_the_log.Goals as goal

pub returns : goal.returns
returns c = clocks_follow_the_log c.every_group_is_sound.ensures c.steps_are_sound.ensures c.ticks_are_of_all_groups.ensures
