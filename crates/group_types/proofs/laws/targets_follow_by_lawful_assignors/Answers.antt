use Rattle.group_types.proofs.FollowedTargets.{targets_follow_by_lawful_assignors}
use Rattle.group_types.proofs.laws.targets_follow_by_lawful_assignors.Goals as goal

pub returns : goal.returns
returns c = targets_follow_by_lawful_assignors
