use Rattle.std.proofs.Common.{◌≡◌, Some}
use Rattle.std.specs.List.{slice_get}
use Rattle.group_types.specs.Assignors.{Subscriber}
use Rattle.group_types.specs.Sets.{of_list}
use Rattle.range_assign.specs.Members.{subscribers_in}
use Rattle.range_assign.proofs.Turns.{IsTurning}
use Rattle.range_assign.proofs.range.take_turns.Given as goal

abbrev pub invariant-loop-t : goal.invariant-loop-t
invariant-loop-t l =
    (m : Subscriber) → slice_get (subscribers_in l.members) l.at ≡ Some m → IsTurning l.topics (subscribers_in l.members) l.at m l.t l.places (of_list l.parts.items)
