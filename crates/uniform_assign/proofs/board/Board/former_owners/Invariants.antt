use Rattle.std.proofs.Common.{◌≡◌, ℕ, None, Some, length, get_or, slice_get}
use Rattle.range_assign.specs.Members.{subscribers_in}
use Rattle.uniform_assign.specs.declared.board.Place.{Place}
use Rattle.uniform_assign.proofs.FormerOwners.{IsFormerTo}
use Rattle.uniform_assign.proofs.board.Board.former_owners.Given as goal

abbrev pub invariant-loop-at : goal.invariant-loop-at
invariant-loop-at l =
    (length l.owners.items ≡ length (l.self).places.items)
    × ((k : ℕ) (place : Place) → slice_get (l.self).places.items k ≡ Some place → IsFormerTo l.former (subscribers_in l.members) l.at place.partition (get_or l.owners.items k None))
