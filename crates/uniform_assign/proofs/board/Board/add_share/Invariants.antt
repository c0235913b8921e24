use Rattle.std.proofs.Common.{◌≡◌, ℕ, None, Some, length, cond, get_or, slice_get}
use Rattle.std.specs.Slice.Iter.{iter_rest}
use Rattle.group_types.specs.Sets.{has}
use Rattle.uniform_assign.specs.declared.board.Place.{Place}
use Rattle.uniform_assign.proofs.FormerOwners.{with_keys}
use Rattle.uniform_assign.proofs.board.Board.add_share.Given as goal

-- what is left of the set is still to be given to the member
abbrev pub invariant-loop-partition : goal.invariant-loop-partition
invariant-loop-partition l =
    (length l.owners.items ≡ length l.initial.owners.items)
    × ((k : ℕ) (place : Place) → slice_get (l.self).places.items k ≡ Some place
    → with_keys (get_or l.owners.items k None) (iter_rest l.partition-iterator) l.member place.partition ≡ cond (has l.set place.partition) (Some l.member) (get_or l.initial.owners.items k None))
