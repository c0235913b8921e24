-- The move of a member, as it is looked for pile by pile.
use Rattle.std.proofs.Common.{◌≡◌, ◌⊎◌, ℕ, ◌<◌, ◌≤◌, length, sym, ap, subst, ◌∙◌, arith, inl, inr, Option, Some, None}
use Rattle.std.specs.List.{slice_get}
use Rattle.std.proofs.lemmas.Option.{same_Some}
use Rattle.uniform_assign.specs.declared.board.Board.{Board}
use Rattle.uniform_assign.specs.declared.draft.Draft.{Draft}
use Rattle.uniform_assign.specs.declared.level.Move.{Move}
use Rattle.uniform_assign.specs.declared.pile.Pile.{Pile}
use Rattle.uniform_assign.specs.Boards.{IsBoard}
use Rattle.uniform_assign.specs.Drafts.{IsDraft}
use Rattle.uniform_assign.specs.Moves.{IsEarlier, IsFirstAmong, IsFirstOf, IsMoveOf}
use Rattle.uniform_assign.specs.Piles.{AreOfClass, IsIn}
use Rattle.uniform_assign.proofs.Moves.{can-within, give-other}
use Rattle.uniform_assign.proofs.Shown.{can_give-owns}

module _ (board : Board) (draft : Draft) (is : IsBoard board) (are : IsDraft board draft) where
  -- of a pile
  pub IsFirstAmong-pile : (pile : Pile) (from at : ℕ) (o : Option Move) → AreOfClass board pile → IsIn at pile → slice_get draft.owners.items at ≡ Some (Some from)
      → ((k : ℕ) → IsIn k pile → at ≤ k) → IsMoveOf board draft at o → IsFirstAmong board draft from (λ k. IsIn k pile) o
  IsFirstAmong-pile pile from at None of_class there owns first stays = λ k is_k can.
      stays from (give-other board draft is are from k at pile.class (of_class k is_k) (of_class at there) owns can)
  IsFirstAmong-pile pile from at (Some m) of_class there owns first (same, move) = (
    move,
    same_Some m.from from (same_Some (Some m.from) (Some from) (sym move.owns ∙ ap (slice_get draft.owners.items) same ∙ owns)),
    λ k is_k can. let low = first k is_k in omega arith,
  )

  -- the earlier of two
  pub IsFirstAmong-either : (P Q R : ℕ → Type 0) (from : ℕ) (one other o : Option Move) → ((k : ℕ) → R k → P k ⊎ Q k)
      → IsFirstAmong board draft from P one → IsFirstAmong board draft from Q other → IsEarlier one other o → IsFirstAmong board draft from R o
  IsFirstAmong-either P Q R from None None o either a b same =
      subst (IsFirstAmong board draft from R) (sym same) (λ k is_k can. elim (either k is_k) [ inl here ↦ a k here can | inr there ↦ b k there can ])
  IsFirstAmong-either P Q R from None (Some n) o either a b same =
      subst (IsFirstAmong board draft from R) (sym same) (b.0, b.1, λ k is_k can. elim (either k is_k) [ inl here ↦ absurd (a k here can) | inr there ↦ b.2 k there can ])
  IsFirstAmong-either P Q R from (Some m) None o either a b same =
      subst (IsFirstAmong board draft from R) (sym same) (a.0, a.1, λ k is_k can. elim (either k is_k) [ inl here ↦ a.2 k here can | inr there ↦ absurd (b k there can) ])
  IsFirstAmong-either P Q R from (Some m) (Some n) o either a b choice = elim choice [
    | inl (same, less) ↦
        subst (IsFirstAmong board draft from R) (sym same) (b.0, b.1, λ k is_k can. elim (either k is_k) [ inl here ↦ let low = a.2 k here can in omega arith | inr there ↦ b.2 k there can ])
    | inr (same, low) ↦
        subst (IsFirstAmong board draft from R) (sym same) (a.0, a.1, λ k is_k can. elim (either k is_k) [ inl here ↦ a.2 k here can | inr there ↦ let above = b.2 k there can in omega arith ])
  ]

  -- nothing else can move
  pub IsFirstAmong-all : (P : ℕ → Type 0) (from : ℕ) (o : Option Move) → ((k : ℕ) → k < length board.places.items → slice_get draft.owners.items k ≡ Some (Some from) → P k)
      → IsFirstAmong board draft from P o → IsFirstOf board draft from o
  IsFirstAmong-all P from None all none = λ k _ can. none k (all k (can-within board draft is are from k can) (can_give-owns board draft is.bare are from k can)) can
  IsFirstAmong-all P from (Some m) all first = (first.0, first.1, λ k _ can. first.2 k (all k (can-within board draft is are from k can) (can_give-owns board draft is.bare are from k can)) can)
