-- Tests of the keys of lists and sets, in an order R that is total and in which only equal keys tie.
use Rattle.std.proofs.Common.{◌≡◌, Bool, true, false, not, ◌&&◌, ◌||◌, List, [], ◌∷◌, refl, sym, ap, ◌∙◌, true≢false}
use Rattle.std.specs.declared.cmp.Ordering.{Ordering}
use Rattle.std.specs.Cmp.{Equal-is, IsTotalOrder, eq_by_cmp_equiv}
use Rattle.std.specs.FinMap.{IsAntisymmetric}
use Rattle.std.specs.List.{list_any}
use Rattle.std.specs.Ordering.{eq_by_cmp}
use Rattle.group_types.specs.Sets.{FinSet, nothing, has, in_order, is_nothing}
use Rattle.group_types.proofs.SetLemmas.{has-in_order, has-nothing, is_nothing-Decides, same_set}
use Rattle.group_reconcile.proofs.Bools.{or_true}

module _ {K : Type 0} {R : K → K → Ordering} (total : IsTotalOrder R) (exact : IsAntisymmetric R) where
  -- a test is met by some key where one of the keys meets it
  pub met : (f : K → Bool) (k : K) (ks : List K) → f k ≡ true → list_any (eq_by_cmp R k) ks ≡ true → list_any f ks ≡ true
  met f k [] so there = there
  met f k (x ∷ ks) so there = at (met f k ks so) (eq_by_cmp R k x) refl there
    where
      at : (list_any (eq_by_cmp R k) ks ≡ true → list_any f ks ≡ true) → (t : Bool) → eq_by_cmp R k x ≡ t → (t || list_any (eq_by_cmp R k) ks) ≡ true → (f x || list_any f ks) ≡ true
      at rest true same there = ap (λ b. b || list_any f ks) (ap f (sym (exact k x ((Equal-is (R k x)).0 same))) ∙ so)
      at rest false same there = ap (λ b. f x || b) (rest there) ∙ or_true (f x)

  -- a test that none of the keys meets
  pub unmet : (f : K → Bool) (ks : List K) → ((k : K) → list_any (eq_by_cmp R k) ks ≡ true → f k ≡ false) → list_any f ks ≡ false
  unmet f [] none = refl
  unmet f (x ∷ ks) none =
      (λ i. none x (ap (λ b. b || list_any (eq_by_cmp R x) ks) ((eq_by_cmp_equiv total).refl x)) i || unmet f ks (λ k there. none k (ap (λ b. eq_by_cmp R k x || b) there ∙ or_true (eq_by_cmp R k x))) i)

  -- a set of the keys that meet a test is empty where no key meets it
  pub is_nothing-tested : (s all : FinSet R) (test : K → Bool) → ((q : K) → has s q ≡ (has all q && test q)) → is_nothing s ≡ not (list_any test (in_order all))
  is_nothing-tested s all test tests = at (list_any test (in_order all)) refl (is_nothing s) refl
    where
      empty : list_any test (in_order all) ≡ false → s ≡ nothing
      empty none = same_set total exact _ _ (λ q. tests q ∙ never q (has all q) (test q) refl refl ∙ sym (has-nothing R q))
        where
          never : (q : K) (a b : Bool) → has all q ≡ a → test q ≡ b → (a && b) ≡ false
          never q true true there so = absurd (true≢false (sym (met test q (in_order all) so (sym (has-in_order all q) ∙ there)) ∙ none))
          never q true false there so = refl
          never q false b there so = refl

      untested : is_nothing s ≡ true → list_any test (in_order all) ≡ false
      untested so = unmet test (in_order all) (λ k there. sym (ap (λ b. b && test k) (has-in_order all k ∙ there)) ∙ sym (tests k) ∙ ap (λ s. has s k) ((is_nothing-Decides s).0 so) ∙ has-nothing R k)

      at : (a : Bool) → list_any test (in_order all) ≡ a → (b : Bool) → is_nothing s ≡ b → is_nothing s ≡ not a
      at true some true so = absurd (true≢false (sym some ∙ untested so))
      at true some false so = so
      at false none b so = (is_nothing-Decides s).1 (empty none)
