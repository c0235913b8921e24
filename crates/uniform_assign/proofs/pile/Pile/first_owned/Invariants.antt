use Rattle.std.proofs.Common.{◌≡◌, ℕ, Some, slice_get}
use Rattle.uniform_assign.specs.Piles.{IsIn, how_many}
use Rattle.uniform_assign.proofs.pile.Pile.first_owned.Given as goal

-- the places of the member are in the pile still, and no other than were there
abbrev pub invariant-loop-place : goal.invariant-loop-place
invariant-loop-place l =
    ((l.self).class ≡ (l.initial.self).class) × ((k : ℕ) → IsIn k l.self → IsIn k l.initial.self)
    × ((k : ℕ) → IsIn k l.initial.self → slice_get l.owners k ≡ Some (Some l.member) → IsIn k l.self)

abbrev pub decreases-loop-place : goal.decreases-loop-place
decreases-loop-place l = how_many l.self
