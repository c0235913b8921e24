use Rattle.std.proofs.Common.{◌≡◌, ◌<◌, ◌≤◌, ◌+◌, ℕ, Some, slice_get}
use Rattle.group_types.specs.Assignors.{Subscriber}
use Rattle.group_types.specs.Uniform.{count}
use Rattle.range_assign.specs.Members.{subscribers_in}
use Rattle.uniform_assign.proofs.stay.are_even.Given as goal

abbrev pub invariant-loop-member : goal.invariant-loop-member
invariant-loop-member l = (k : ℕ) (s : Subscriber) → k < l.member-index → slice_get (subscribers_in l.members) k ≡ Some s → l.most ≤ count l.former s.id + 1
