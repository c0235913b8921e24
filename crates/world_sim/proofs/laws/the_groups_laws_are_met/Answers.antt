use Rattle.world_sim.proofs.BroughtAgain.{some_offset_is_stored}
use Rattle.world_sim.proofs.GroupSteps.{some_member_gives_up}
use Rattle.world_sim.proofs.laws.the_groups_laws_are_met.Goals as goal

pub returns-clause-gives_up : goal.returns-clause-gives_up
returns-clause-gives_up c = some_member_gives_up c.every_group_is_sound.ensures

pub returns-clause-stores : goal.returns-clause-stores
returns-clause-stores c = some_offset_is_stored
