use Rattle.group_types.proofs.FirstChecks.{heartbeats_are_checked_in_order}
use Rattle.group_types.proofs.laws.heartbeats_are_checked_in_order.Goals as goal

pub returns : goal.returns
returns c = heartbeats_are_checked_in_order
