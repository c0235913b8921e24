use Rattle.std.proofs.Common.{◌≡◌, ℕ, ◌<◌, get_or}
use Rattle.range_assign.specs.declared.subs.Subscriber.{Subscriber}
use Rattle.range_assign.proofs.subs.Subscriber.are_apart.Given as goal

-- none of the members up to this one has the id of an earlier one
abbrev pub invariant-loop-place : goal.invariant-loop-place
invariant-loop-place l =
    (i j : ℕ) (d : Subscriber) → i < j → j < l.place → (get_or l.members i d).id.now ≡ (get_or l.members j d).id.now → ⊥

-- nor has one of those that were looked at the id of this one
abbrev pub invariant-loop-earlier : goal.invariant-loop-earlier
invariant-loop-earlier l =
    (i : ℕ) (d : Subscriber) → i < l.earlier-index → (get_or l.earlier-items i d).id.now ≡ l.later.id.now → ⊥
