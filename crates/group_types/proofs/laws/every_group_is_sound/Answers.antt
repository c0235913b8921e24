use Rattle.group_types.proofs.Runs.{every_group_is_sound}
use Rattle.group_types.proofs.laws.every_group_is_sound.Goals as goal

pub returns : goal.returns
returns c = every_group_is_sound
