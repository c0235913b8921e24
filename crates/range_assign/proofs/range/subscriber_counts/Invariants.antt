use Rattle.std.proofs.Common.{◌≡◌, take}
use Rattle.range_assign.specs.Members.{subscribers_in}
use Rattle.range_assign.specs.Turns.{counts_of}
use Rattle.range_assign.proofs.range.subscriber_counts.Given as goal

abbrev pub invariant-loop-member : goal.invariant-loop-member
invariant-loop-member l = l.counts.items ≡ counts_of l.topics (take l.member-index (subscribers_in l.members))
