use Rattle.group_types.proofs.Commits.{taken_at_epoch}
use Rattle.group_types.proofs.laws.commits_are_at_epoch.Goals as goal

pub returns : goal.returns
returns c = taken_at_epoch
