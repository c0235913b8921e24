-- The offsets of one topic, by their indexes.
use Rattle.std.proofs.Common.{◌≡◌, ℤ, cond, List, [], ◌∷◌, Option, Some, refl, sym, ap, subst, ◌∙◌}
use Rattle.std.specs.Cmp.{int_cmp_total, int_eq_equiv, Equal-is}
use Rattle.std.specs.declared.cmp.Ordering.TheVariants.{Equal}
use Rattle.std.specs.Cmp.{tied_itself}
use Rattle.std.specs.FinMap as finite
use Rattle.std.specs.FinMap.{int_cmp-IsAntisymmetric}
use Rattle.std.specs.List.{IsDistinct}
use Rattle.std.specs.Map.{keys_of, lookup, update_all}
use Rattle.std.specs.Option.{option_or}
use Rattle.std.specs.Ordering.{eq_by_cmp, int_cmp, int_eq}
use Rattle.std.proofs.lemmas.Bool.Decides.{Decides-int_eq, same_from_decides}
use Rattle.std.proofs.lemmas.Map.Made.{update_all_distinct}

-- the test of equality answers as the order does
pub int_eq-ties : (i k : ℤ) → eq_by_cmp int_cmp i k ≡ int_eq i k
int_eq-ties i k =
    let ties = Equal-is (int_cmp i k) in
    same_from_decides {P = i ≡ k} _ _ (
      λ so. int_cmp-IsAntisymmetric i k (ties.0 so),
      λ is. ties.1 (subst (λ r. int_cmp i r ≡ Equal) is (tied_itself int_cmp_total i)),
    ) (Decides-int_eq i k)

module _ {X : Type 0} where
  abbrev pub by_index : List (ℤ × X) → finite.FinMap int_cmp X
  by_index es = finite.from_entries es

  find-lookup : (i : ℤ) (es : List (ℤ × X)) → finite.find int_cmp i es ≡ lookup (int_eq i) es
  find-lookup i [] = refl
  find-lookup i (e ∷ es) = λ j. cond (int_eq-ties i e.0 j) (Some e.1) (find-lookup i es j)

  pub get-by_index : (es : List (ℤ × X)) (i : ℤ) → finite.get (by_index es) i ≡ lookup (int_eq i) es
  get-by_index es i = finite.get-from_entries int_cmp_total es i ∙ find-lookup i es

  picked : (i k : ℤ) (x : X) (o : Option X) → cond (int_eq i k) (Some x) o ≡ cond (eq_by_cmp int_cmp k i) (Some x) o
  picked i k x o = ap (λ b. cond b (Some x) o) (int_eq_equiv.symm i k ∙ sym (int_eq-ties k i))

  -- an index was stored
  pub by_index-insert : (es us : List (ℤ × X)) (i : ℤ) (x : X)
      → ((k : ℤ) → lookup (int_eq k) us ≡ cond (int_eq i k) (Some x) (lookup (int_eq k) es))
      → by_index us ≡ finite.insert (by_index es) i x
  by_index-insert es us i x updates =
      finite.same_map int_cmp_total int_cmp-IsAntisymmetric _ _
      (λ k. get-by_index us k ∙ updates k ∙ picked i k x (lookup (int_eq k) es)
      ∙ ap (cond (eq_by_cmp int_cmp k i) (Some x)) (sym (get-by_index es k))
      ∙ sym (finite.get-insert int_cmp_total (by_index es) i x k))

  -- all of the news were stored
  pub get-appended : (es news us : List (ℤ × X)) → IsDistinct int_eq (keys_of news)
      → ((k : ℤ) → lookup (int_eq k) us ≡ update_all int_eq (λ q. lookup (int_eq q) es) news k)
      → (k : ℤ) → finite.get (by_index us) k ≡ option_or (finite.get (by_index news) k) (finite.get (by_index es) k)
  get-appended es news us distinct updates k =
      get-by_index us k ∙ updates k
      ∙ update_all_distinct int_eq_equiv int_eq (λ _ _. refl) (λ q. lookup (int_eq q) es) news k distinct
      ∙ (λ j. option_or (sym (get-by_index news k) j) (sym (get-by_index es k) j))
