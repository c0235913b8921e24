use Rattle.group_types.proofs.CommitOrder.{commits_are_answered_in_order}
use Rattle.group_types.proofs.laws.commits_are_answered_in_order.Goals as goal

pub returns : goal.returns
returns c = commits_are_answered_in_order
