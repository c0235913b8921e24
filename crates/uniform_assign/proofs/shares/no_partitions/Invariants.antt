use Rattle.std.proofs.Common.{◌≡◌, map, take}
use Rattle.group_types.specs.Sets.{nothing}
use Rattle.range_assign.specs.Members.{subscribers_in}
use Rattle.uniform_assign.specs.Hands.{hands_in}
use Rattle.uniform_assign.proofs.shares.no_partitions.Given as goal

abbrev pub invariant-loop-at : goal.invariant-loop-at
invariant-loop-at l = hands_in l.hands.items ≡ map (λ m. (m.id, nothing)) (take l.at (subscribers_in l.members))
