-- The move that follows, as it is looked for member by member in their order.
use Rattle.std.proofs.Common.{◌≡◌, ℕ, zero, suc, ◌<◌, ◌≤◌, ◌+◌, List, [], ◌∷◌, ◌++◌, length, get_or, set as set_at, slice_get, sym, ap, subst, arith, inl, inr, Some, None, sum_by}
use Rattle.uniform_assign.specs.declared.board.Board.{Board}
use Rattle.uniform_assign.specs.declared.draft.Draft.{Draft}
use Rattle.uniform_assign.specs.declared.level.Move.{Move}
use Rattle.uniform_assign.specs.declared.order.Order.{Order}
use Rattle.uniform_assign.specs.Boards.{IsBoard}
use Rattle.uniform_assign.specs.Drafts.{IsDraft}
use Rattle.uniform_assign.specs.Moves.{CanGive, IsFirst, IsFirstOf, IsGiversLimit, IsNext}
use Rattle.uniform_assign.specs.Orders.{AreShown, IsGreatestAt, IsOrder}
use Rattle.uniform_assign.proofs.Lists.{slice_get-append_cases}
use Rattle.uniform_assign.proofs.Moves.{can-within, move-can, poor-stays}
use Rattle.uniform_assign.proofs.Ordered.{AreShown-aside, AreShown-none, fewer_shown}
use Rattle.uniform_assign.proofs.Shown.{can_give-owns}
use Rattle.std.proofs.lemmas.Option.{same_Some}

-- the members that are set aside have nothing to give away, and the order is that of the others
pub record IsSearched (board : Board) (draft : Draft) (aside : List ℕ) (order : Order) : Type 0 where
  pub shown : List ℕ
  pub are_shown : AreShown draft.counts.items aside 0 shown
  pub is_order : IsOrder shown order
  pub fewer : sum_by (λ n. n) shown + length aside ≤ sum_by (λ n. n) draft.counts.items
  pub none : (j m k : ℕ) → slice_get aside j ≡ Some m → ¬ CanGive board draft m k

module _ (board : Board) (draft : Draft) where
  pub IsSearched-none : (aside : List ℕ) (order : Order) → aside ≡ [] → IsOrder draft.counts.items order → IsSearched board draft aside order
  IsSearched-none aside order none is = record {
    shown = draft.counts.items;
    are_shown = AreShown-none draft.counts.items aside none;
    is_order = is;
    fewer = let short = ap length none in omega arith;
    none = λ j m k there. absurd (nobody j m (subst (λ xs. slice_get xs j ≡ Some m) none there));
  }
    where
      nobody : (j m : ℕ) → slice_get [] j ≡ Some m → ⊥
      nobody j m there = cc

  -- one member more has nothing to give away
  pub IsSearched-aside : (aside : List ℕ) (old new : Order) (limit m : ℕ) → (is : IsSearched board draft aside old) → IsGreatestAt is.shown limit m → ((k : ℕ) → ¬ CanGive board draft m k)
      → ((counts : List ℕ) → IsOrder counts old → IsOrder (set_at counts m 0) new) → IsSearched board draft (aside ++ m ∷ []) new
  IsSearched-aside aside old new limit m is greatest stays written =
      let many = is.are_shown.as_many in
      let within = greatest.within in
      let above = greatest.above in
      record {
        shown = set_at is.shown m 0;
        are_shown = AreShown-aside draft.counts.items aside is.shown m is.are_shown (omega arith);
        is_order = written is.shown is.is_order;
        fewer = fewer_shown draft.counts.items aside is.shown m within (omega arith) is.fewer;
        none = λ j i k there. elim (slice_get-append_cases aside (m ∷ []) j i there) [
          | inl before ↦ is.none j i k before
          | inr (n, at, end) ↦ last i k n end
        ];
      }
    where
      last : (i k n : ℕ) → slice_get (m ∷ []) n ≡ Some i → ¬ CanGive board draft i k
      last i k zero end can = stays k (subst (λ n. CanGive board draft n k) (sym (same_Some m i end)) can)
      last i k (suc n) end can = cc

  module _ (is_board : IsBoard board) (are : IsDraft board draft) (aside : List ℕ) (order : Order) (limit : ℕ) (is : IsSearched board draft aside order) where
    -- the count of a member that can give a partition away is shown
    shown-giver : (i k : ℕ) → CanGive board draft i k → (i < length is.shown) × (get_or is.shown i 0 ≡ get_or draft.counts.items i 0)
    shown-giver i k can =
        let within = are.counts.within k i (can_give-owns board draft is_board.bare are i k can) in
        let many = is.are_shown.as_many in
        elim (is.are_shown.each i within) [
          | inl equal ↦ (omega arith, equal)
          | inr (none, (j, above, there)) ↦ absurd (is.none j i k there can)
        ]

    -- the first member of the order gives
    pub IsFirst-searched : (from : ℕ) (m : Move) → IsGreatestAt is.shown limit from → IsFirstOf board draft from (Some m) → IsFirst board draft (length board.places.items) m
    IsFirst-searched from m greatest (move, same, first) =
        let can = move-can board draft is_board are m move in
        let mine = shown-giver m.from m.partition can in
        let value = mine.1 in
        let equal = ap (λ j. get_or is.shown j 0) same in
        record {
          is_move = move;
          within = can-within board draft is_board are m.from m.partition can;
          most = λ i k low other.
              let (within, his) = shown-giver i k other in
              let few = greatest.greatest i within in
              omega arith;
          first_member = λ i k low other early.
              let (within, his) = shown-giver i k other in
              let few = greatest.first i (omega arith) in
              omega arith;
          first_partition = λ k low other. first k tt (subst (λ j. CanGive board draft j k) same other);
        }

    -- nobody is left that owns more than the limit
    pub IsNext-searched : IsGiversLimit board draft.counts.items limit → ((m : ℕ) → m < length is.shown → get_or is.shown m 0 ≤ limit) → IsNext board draft (length board.places.items) None
    IsNext-searched is_limit few = λ i k low can.
        let (within, his) = shown-giver i k can in
        let at = few i within in
        poor-stays board draft is_board are limit i is_limit (omega arith) k can
