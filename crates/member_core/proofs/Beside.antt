-- How many partitions of a set aren't in another.
use Rattle.std.specs.Prelude.{T}
use Rattle.std.proofs.Common.{◌≡◌, ◌-◌, ◌≤◌, Bool, true, false, cond, not, ◌&&◌, List, [], ◌∷◌, map, length, refl, sym, ap, subst, ◌∙◌, arith, true≢false}
use Rattle.std.specs.declared.cmp.Ordering.{Ordering}
use Rattle.std.specs.declared.cmp.Ordering.TheVariants.{Less, Equal, Greater}
use Rattle.std.specs.List.{AllByRecursion, filter, list_any}
use Rattle.std.specs.List.Sorted.{IsStrictlySortedBy}
use Rattle.std.specs.Ordering.{eq_by_cmp, is_lt}
use Rattle.std.specs.Cmp.{Equal-is, IsTotalOrder}
use Rattle.std.specs.FinMap as finite
use Rattle.std.specs.FinMap.{IsAntisymmetric, entries}
use Rattle.std.specs.FinMap.Entries.{below_all, is_sorted}
use Rattle.std.proofs.lemmas.List.Kept.{IsStrictlySortedBy-filter}
use Rattle.std.proofs.lemmas.Map.Views.{any-filter_same}
use Rattle.group_types.specs.Sets.{FinSet, nothing, has, without, minus, in_order, of_list, size}
use Rattle.group_types.proofs.BoolLemmas.{either_way}
use Rattle.group_types.proofs.SetLemmas.{has-in_order, has-minus, has-nothing, has-of_list, has-without, has_tied, same_set, size-nothing, size-without}
use Rattle.group_types.proofs.ListSets.{size-of_list}

below_keys : {K : Type 0} (R : K → K → Ordering) (x : K) (es : List (K × Unit {0})) → T (below_all R x es) → AllByRecursion (λ y. R x y ≡ Less) (map (λ e. e.0) es)
below_keys R x [] h = tt
below_keys R x (e ∷ es) h =
    elim (R x e.0) as (λ o. R x e.0 ≡ o → T (is_lt o && below_all R x es) → AllByRecursion (λ y. R x y ≡ Less) (e.0 ∷ map (λ d. d.0) es)) [
      | Less ↦ λ is rest. (is, below_keys R x es rest)
      | Equal ↦ λ is rest. absurd rest
      | Greater ↦ λ is rest. absurd rest
    ] refl h

rising_keys : {K : Type 0} (R : K → K → Ordering) (es : List (K × Unit {0})) → T (is_sorted R es) → IsStrictlySortedBy R (map (λ e. e.0) es)
unfolding IsStrictlySortedBy
rising_keys R [] h = tt
rising_keys R (e ∷ es) h =
    elim (below_all R e.0 es) as (λ b. below_all R e.0 es ≡ b → T (b && is_sorted R es) → IsStrictlySortedBy R (e.0 ∷ map (λ d. d.0) es)) [
      | true ↦ λ is rest. (below_keys R e.0 es (subst T (sym is) tt), rising_keys R es rest)
      | false ↦ λ is rest. absurd rest
    ] refl h

module _ {K : Type 0} {R : K → K → Ordering} (total : IsTotalOrder R) (exact : IsAntisymmetric R) where
  -- the keys of a set that aren't in another
  minus-of_list : (s t : FinSet R) → of_list {R = R} (filter (λ x. not (has t x)) (in_order s)) ≡ minus s t
  minus-of_list s t = same_set total exact _ _ (λ q. has-of_list total _ q
      ∙ any-filter_same (eq_by_cmp R q) (λ x. not (has t x)) (not (has t q)) (λ k tie. ap not (has_tied total t q k ((Equal-is (R q k)).0 tie))) (in_order s)
      ∙ either_way (not (has t q)) _ ∙ ap (λ b. b && not (has t q)) (sym (has-in_order s q)) ∙ sym (has-minus total s t q))

  pub size-minus : (s t : FinSet R) → length (filter (λ x. not (has t x)) (in_order s)) ≡ size (minus s t)
  size-minus s t =
      sym (size-of_list total _ (IsStrictlySortedBy-filter R (λ x. not (has t x)) (in_order s) (rising_keys R (entries s) (finite.entries_sorted s))))
      ∙ ap size (minus-of_list s t)

  -- nothing of no keys is left
  pub size-minus_nothing : (s t : FinSet R) → s ≡ nothing → size (minus s t) ≡ 0
  size-minus_nothing s t is =
      ap size (same_set total exact (minus s t) nothing (λ q. has-minus total s t q ∙ ap (λ x. has x q && not (has t q)) is ∙ ap (λ b. b && not (has t q)) (has-nothing R q) ∙ sym (has-nothing R q)))
      ∙ size-nothing R

  minus-without : (s t : FinSet R) (x : K) → minus (without s x) t ≡ without (minus s t) x
  minus-without s t x = same_set total exact _ _ (λ q.
      has-minus total (without s x) t q
      ∙ ap (λ b. b && not (has t q)) (has-without total s x q)
      ∙ regroup (not (eq_by_cmp R q x)) (has s q) (not (has t q))
      ∙ ap (λ b. not (eq_by_cmp R q x) && b) (sym (has-minus total s t q))
      ∙ sym (has-without total (minus s t) x q))
    where
      regroup : (a b c : Bool) → ((a && b) && c) ≡ (a && (b && c))
      regroup true b c = refl
      regroup false b c = refl

  -- a key that is taken out of a set, where it was in it and isn't in the other
  pub size-minus_without : (s t : FinSet R) (x : K) → has s x ≡ true → has t x ≡ false → size (minus (without s x) t) ≡ size (minus s t) - 1
  size-minus_without s t x there other =
      ap size (minus-without s t x) ∙ size-without total (minus s t) x
      ∙ ap (λ b. cond b (size (minus s t) - 1) (size (minus s t))) (has-minus total s t x ∙ (λ i. there i && not (other i)))

  -- such a key is counted
  pub some_beside : (s t : FinSet R) (x : K) → has s x ≡ true → has t x ≡ false → 1 ≤ size (minus s t)
  some_beside s t x there other = at_least (in_order (minus s t)) refl
    where
      at_least : (ks : List K) → in_order (minus s t) ≡ ks → 1 ≤ length ks
      at_least [] is = absurd (true≢false (sym ((λ i. there i && not (other i))) ∙ sym (has-minus total s t x) ∙ has-in_order (minus s t) x ∙ ap (list_any (eq_by_cmp R x)) is))
      at_least (k ∷ ks) is = omega arith

  -- a key that isn't there is taken out without a change
  pub without_absent : (s : FinSet R) (x : K) → has s x ≡ false → without s x ≡ s
  without_absent s x absent = same_set total exact _ s (λ q. has-without total s x q ∙ away q (eq_by_cmp R q x) refl)
    where
      away : (q : K) (b : Bool) → eq_by_cmp R q x ≡ b → (not b && has s q) ≡ has s q
      away q true tie = sym absent ∙ has_tied total s q x ((Equal-is (R q x)).0 tie)
      away q false apart = refl
