-- Where each partition has an owner that owns no other, there is nothing to fill and nothing to level.
use Rattle.std.proofs.Common.{◌≡◌, ℕ, zero, suc, ◌<◌, ◌≤◌, ◌+◌, List, [], length, take, get_or, refl, sym, ap, subst, ◌∙◌, arith, Option, None, Some}
use Rattle.std.specs.List.{slice_get}
use Rattle.std.proofs.lemmas.List.{get_or_default, take_all}
use Rattle.std.proofs.lemmas.Option.{same_Some, slice_get_read, slice_get_within}
use Rattle.group_types.specs.Uniform.{AreFilled, IsLevel, in_partition_order}
use Rattle.uniform_assign.specs.declared.board.Board.{Board}
use Rattle.uniform_assign.specs.declared.draft.Draft.{Draft}
use Rattle.uniform_assign.specs.Boards.{IsBare, members_on}
use Rattle.uniform_assign.specs.Drafts.{IsDraft, IsFilledAndLevelled, IsSingle, drawn_on}
use Rattle.uniform_assign.proofs.Boards.{as_many_places}
use Rattle.uniform_assign.proofs.Filled.{AreFilled-next, Fills-owned}
use Rattle.uniform_assign.proofs.Lists.{some_at}
use Rattle.uniform_assign.proofs.Shown.{can_give-owns, count-shown}

-- the owner that was read
pub owner_read : (items owners : List (Option ℕ)) (k m : ℕ) → items ≡ owners → k < length items → get_or items k None ≡ Some m → slice_get owners k ≡ Some (Some m)
owner_read items owners k m same low is = ap (λ xs. slice_get xs k) (sym same) ∙ slice_get_read items (length items) k (Some m) refl low (sym (get_or_default items k (Some m) None low ∙ is))

module _ (board : Board) (draft : Draft) (is : IsBare board) (are : IsDraft board draft) (single : IsSingle draft) where
  filled-to : (n : ℕ) → n ≤ length (in_partition_order board.view.now) → AreFilled (members_on board) (drawn_on board draft.owners.items) (take n (in_partition_order board.view.now)) (drawn_on board draft.owners.items)
  filled-to zero within = refl
  filled-to (suc n) within =
      let parts = in_partition_order board.view.now in
      let spread = drawn_on board draft.owners.items in
      let many = as_many_places board is in
      let owners = are.as_many_owners in
      let (x, is_x) = some_at parts n (omega arith) in
      let (m, owner, few) = single n (omega arith) in
      let next : n + 1 ≡ suc n = omega arith in
      subst (λ k. AreFilled (members_on board) spread (take k parts) spread) next
      (AreFilled-next (members_on board) spread spread spread parts n x is_x (filled-to n (omega arith)) (Fills-owned board draft is are n x is_x m owner))

  single-level : IsLevel board.view.now (members_on board) (drawn_on board draft.owners.items)
  single-level from place can =
      let owner = can_give-owns board draft is are from place can in
      let (m, is_m, few) = single place (slice_get_within draft.owners.items place (Some from) owner) in
      let same : m ≡ from = same_Some m from (same_Some (Some m) (Some from) (sym is_m ∙ owner)) in
      let equal = ap (λ n. get_or draft.counts.items n 0) same in
      let mine = count-shown board draft is are from can.owner can.is_member in
      let fewer = can.fewer in
      omega arith

  pub single-settled : IsFilledAndLevelled board.view.now (members_on board) (drawn_on board draft.owners.items) (drawn_on board draft.owners.items)
  single-settled =
      let parts = in_partition_order board.view.now in
      let spread = drawn_on board draft.owners.items in
      record {
        filled = spread;
        are_filled = subst (λ xs. AreFilled (members_on board) spread xs spread) (take_all (length parts) parts (omega arith)) (filled-to (length parts) (omega arith));
        levelled = record { steps = []; are_moves = refl; is_level = single-level };
      }
