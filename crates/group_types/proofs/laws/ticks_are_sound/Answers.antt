use Rattle.group_types.proofs.Runs.{ticked_is_sound}
use Rattle.group_types.proofs.laws.ticks_are_sound.Goals as goal

pub returns : goal.returns
returns c = λ g moment sound. ticked_is_sound g sound moment
