use Rattle.std.proofs.Common.{◌-◌, ◌≤◌, length}
use Rattle.range_assign.specs.Members.{subscribers_in}
use Rattle.uniform_assign.specs.Former.{OwnNothingFrom}
use Rattle.uniform_assign.proofs.former.last_owner_end.Given as goal

abbrev pub invariant-loop-low : goal.invariant-loop-low
invariant-loop-low l = (l.high ≤ length l.members) × OwnNothingFrom l.former (subscribers_in l.members) l.high

abbrev pub decreases-loop-low : goal.decreases-loop-low
decreases-loop-low l = l.high - l.low
