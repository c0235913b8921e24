use Rattle.group_types.proofs.EpochRises.{epochs_rise_within_targets}
use Rattle.group_types.proofs.laws.epochs_rise_within_targets.Goals as goal

pub returns : goal.returns
returns c = epochs_rise_within_targets
