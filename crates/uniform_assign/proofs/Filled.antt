-- The partitions that are given owners, place by place.
use Rattle.std.proofs.Common.{◌≡◌, ℕ, ◌<◌, ◌+◌, List, [], ◌∷◌, ◌++◌, length, take, set as set_at, refl, sym, subst, Some, None}
use Rattle.std.specs.FinMap as finite
use Rattle.std.specs.List.{slice_get}
use Rattle.std.specs.Option.{MatchOption}
use Rattle.group_types.specs.declared.partition.Partition.{Partition}
use Rattle.group_types.specs.Text.{Text}
use Rattle.group_types.specs.Assignors.{Subscriber, subscribers_of}
use Rattle.group_types.specs.Owners.{Spread}
use Rattle.group_types.specs.Uniform.{AreFilled, Fills, GoesTo, IsFewest, in_partition_order}
use Rattle.uniform_assign.specs.declared.board.Board.{Board}
use Rattle.uniform_assign.specs.declared.draft.Draft.{Draft}
use Rattle.uniform_assign.specs.Boards.{IsBare, members_on}
use Rattle.uniform_assign.specs.Drafts.{IsDraft, drawn_on}
use Rattle.uniform_assign.proofs.Boards.{parts_are_apart}
use Rattle.uniform_assign.proofs.Drawn.{drawn-at, drawn-owner, drawn-set}
use Rattle.uniform_assign.proofs.Made.{take-next}
use Rattle.uniform_assign.proofs.Shown.{owner-at}

pub AreFilled-push : (subs : List Subscriber) (spread next new : Spread) (xs : List (Text × Partition)) (x : Text × Partition) → AreFilled subs spread xs next → Fills subs next x new → AreFilled subs spread (xs ++ x ∷ []) new
AreFilled-push subs spread next new [] x same fills = (new, subst (λ s. Fills subs s x new) same fills, refl)
AreFilled-push subs spread next new (y ∷ xs) x (first, fills_first, filled) fills = (first, fills_first, AreFilled-push subs first next new xs x filled fills)

pub AreFilled-next : (subs : List Subscriber) (spread next new : Spread) (parts : List (Text × Partition)) (k : ℕ) (x : Text × Partition) → slice_get parts k ≡ Some x → AreFilled subs spread (take k parts) next
    → Fills subs next x new → AreFilled subs spread (take (k + 1) parts) new
AreFilled-next subs spread next new parts k x is filled fills =
    subst (λ xs. AreFilled subs spread xs new) (sym (take-next parts k x is)) (AreFilled-push subs spread next new (take k parts) x filled fills)

GoesTo-fewest : (spread new : Spread) (takers : List Subscriber) (p : Partition) (n : Subscriber) → IsFewest spread takers n → new ≡ finite.insert spread p n.id → GoesTo spread takers p new
GoesTo-fewest spread new [] p n fewest is = let there = fewest.is_there in cc
GoesTo-fewest spread new (m ∷ ms) p n fewest is = (n, fewest, is)

GoesTo-nobody : (spread new : Spread) (takers : List Subscriber) (p : Partition) → takers ≡ [] → new ≡ spread → GoesTo spread takers p new
GoesTo-nobody spread new [] p none same = same
GoesTo-nobody spread new (m ∷ ms) p none same = cc

module _ (board : Board) (draft : Draft) (is : IsBare board) (are : IsDraft board draft) (k : ℕ) (x : Text × Partition) (is_x : slice_get (in_partition_order board.view.now) k ≡ Some x) where
  abbrev subs : List Subscriber
  subs = members_on board

  abbrev spread : Spread
  spread = drawn_on board draft.owners.items

  free : slice_get draft.owners.items k ≡ Some None → finite.get spread x.1 ≡ None
  free none = drawn-at subs (in_partition_order board.view.now) draft.owners.items k x None (parts_are_apart board is) is_x none

  pub Fills-fewest : (m : ℕ) (s : Subscriber) → slice_get draft.owners.items k ≡ Some None → slice_get subs m ≡ Some s → k < length draft.owners.items → IsFewest spread (subscribers_of subs x.0) s
      → Fills subs spread x (drawn_on board (set_at draft.owners.items k (Some m)))
  Fills-fewest m s none is_s within fewest =
      let new = drawn_on board (set_at draft.owners.items k (Some m)) in
      subst (λ o. MatchOption o (GoesTo spread (subscribers_of subs x.0) x.1 new) (λ _. new ≡ spread)) (sym (free none))
      (GoesTo-fewest spread new (subscribers_of subs x.0) x.1 s fewest (drawn-set subs (in_partition_order board.view.now) draft.owners.items k x m s (parts_are_apart board is) is_x within is_s))

  pub Fills-nobody : slice_get draft.owners.items k ≡ Some None → subscribers_of subs x.0 ≡ [] → Fills subs spread x spread
  Fills-nobody none nobody =
      subst (λ o. MatchOption o (GoesTo spread (subscribers_of subs x.0) x.1 spread) (λ _. spread ≡ spread)) (sym (free none))
      (GoesTo-nobody spread spread (subscribers_of subs x.0) x.1 nobody refl)

  pub Fills-owned : (m : ℕ) → slice_get draft.owners.items k ≡ Some (Some m) → Fills subs spread x spread
  Fills-owned m owner =
      let (s, is_s) = owner-at board draft is are k m owner in
      let owned = drawn-owner subs (in_partition_order board.view.now) draft.owners.items k x m s (parts_are_apart board is) is_x owner is_s in
      subst (λ o. MatchOption o (GoesTo spread (subscribers_of subs x.0) x.1 spread) (λ _. spread ≡ spread)) (sym owned) refl
