use Rattle.std.proofs.Common.{◌≤◌, ◌-◌, length}
use Rattle.range_assign.specs.Members.{subscribers_in}
use Rattle.range_assign.specs.Shares.{shares_in}
use Rattle.range_assign.proofs.Dealt.{IsDealingFull}
use Rattle.range_assign.proofs.range.RangeAssignor.assign.Given as goal

abbrev pub invariant-loop-at : goal.invariant-loop-at
invariant-loop-at l = (l.at ≤ length l.members) × IsDealingFull l.topics (subscribers_in l.members) l.at l.places.items (shares_in l.shares.items)

-- the members that are left
abbrev pub decreases-loop-at : goal.decreases-loop-at
decreases-loop-at l = length l.members - l.at
