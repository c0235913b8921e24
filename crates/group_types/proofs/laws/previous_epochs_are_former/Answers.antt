use Rattle.group_types.proofs.FormerEpochs.{previous_epochs_are_former}
use Rattle.group_types.proofs.laws.previous_epochs_are_former.Goals as goal

pub returns : goal.returns
returns c = previous_epochs_are_former
