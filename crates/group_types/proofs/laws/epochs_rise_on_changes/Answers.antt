use Rattle.group_types.proofs.GroupEpochs.{epochs_rise_on_changes}
use Rattle.group_types.proofs.laws.epochs_rise_on_changes.Goals as goal

pub returns : goal.returns
returns c = epochs_rise_on_changes
