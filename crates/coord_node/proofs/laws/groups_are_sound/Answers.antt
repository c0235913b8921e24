use Rattle.coord_node.specs.Steps.{Step}
use Rattle.coord_node.proofs.SoundGroups.{groups_are_sound}
use Rattle.coord_node.proofs.laws.groups_are_sound.Goals as goal

pub returns : goal.returns
returns c = groups_are_sound Step c.steps_are_sound.ensures
