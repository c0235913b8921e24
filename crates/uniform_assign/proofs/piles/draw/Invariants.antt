use Rattle.std.proofs.Common.{◌≡◌, ◌<◌, ◌⊎◌, ℕ, Some, slice_get}
use Rattle.uniform_assign.specs.declared.piles.Owned.{Owned}
use Rattle.uniform_assign.specs.Piles.{IsInHand, IsInClass, IsListedIn}
use Rattle.uniform_assign.proofs.piles.draw.Given as goal

-- those that were looked at are in the hand, beside what was there
abbrev pub invariant-loop-one : goal.invariant-loop-one
invariant-loop-one l =
    ((i : ℕ) (one : Owned) → i < l.one-index → slice_get l.listed i ≡ Some one → IsInHand l.hand.items one.place)
    × ((k : ℕ) → IsInHand l.initial.hand.items k → IsInHand l.hand.items k)
    × ((t k : ℕ) → IsInClass l.hand.items t k → IsInClass l.initial.hand.items t k ⊎ IsListedIn l.listed t k)
