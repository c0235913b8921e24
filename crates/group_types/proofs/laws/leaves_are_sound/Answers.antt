use Rattle.group_types.proofs.Runs.{left_is_sound, gone_away_is_sound}
use Rattle.group_types.proofs.laws.leaves_are_sound.Goals as goal

pub returns : goal.returns
returns c = λ g m r stamp moment sound kept. (
  left_is_sound g sound m r kept stamp moment,
  gone_away_is_sound g sound m r kept stamp moment,
)
