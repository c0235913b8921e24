use Rattle.coord_node.proofs.SoundGroups.{steps_are_sound}
use Rattle.coord_node.proofs.laws.steps_are_sound.Goals as goal

pub returns : goal.returns
returns c =
    steps_are_sound c.every_group_is_sound.ensures c.heartbeats_are_sound.ensures c.ticks_are_sound.ensures c.commits_are_sound.ensures
