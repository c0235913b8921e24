-- Lists of keys that rise strictly in an order R, and the sets of them.
use Rattle.std.proofs.Common.{◌≡◌, ℕ, zero, suc, ◌+◌, ◌-◌, ◌<◌, ◌≤◌, Bool, true, false, cond, not, ◌&&◌, ◌||◌, List, [], ◌∷◌, ◌++◌, length, get_or, Some, Result, Ok, Err, IfOk, IfErr, is_ok, slice_get, refl, sym, ap, subst, ◌∙◌, inl, inr, arith, true≢false}
use Rattle.std.specs.declared.cmp.Ordering.{Ordering}
use Rattle.std.specs.declared.cmp.Ordering.TheVariants.{Less, Greater}
use Rattle.std.specs.Bool.{Decides}
use Rattle.std.specs.List.{AllByRecursion, dedup, filter, insert, list_any, remove}
use Rattle.std.specs.List.Sorted.{IsBinarySearchResult, IsNonDecreasingBy, IsSearchInRange, IsPartitionPoint, IsPermutation, IsStrictlySortedBy}
use Rattle.std.specs.Ordering.{eq_by_cmp, is_eq, is_lt, ordering_index, ordering_reverse}
use Rattle.std.specs.Cmp.{Equal-is, IsTotalOrder, eq_by_cmp_equiv, tied_itself}
use Rattle.std.specs.FinMap.{IsAntisymmetric}
use Rattle.std.proofs.lemmas.Bool.{cases_lt}
use Rattle.std.proofs.lemmas.List.Edits.{insert_end}
use Rattle.std.proofs.lemmas.List.Elements.{All-from_recursion}
use Rattle.std.proofs.lemmas.List.Folds.{list_any_none}
use Rattle.std.proofs.lemmas.List.Sorted.{list_any-IsPermutation, IsPermutation-insert, IsPermutation-remove, searchable_from_sorted}
use Rattle.std.proofs.lemmas.Map.Keys.{IsDistinct-from_sorted, IsDistinct-head, IsDistinct-IsPermutation, Less-from_sorted, any_passes_from_place}
use Rattle.std.proofs.lemmas.Option.{get_or_from_slice_get, slice_get-get_or, slice_get_within}
use Rattle.group_types.specs.Sets.{FinSet, nothing, has, with_one, without, common, of_list}
use Rattle.group_types.proofs.BoolLemmas.{and_known, or_known, repeated, taken_away}
use Rattle.group_types.proofs.SetLemmas.{has-of_list, has-with_one, has-without, has_tied, same_set}
use Rattle.group_types.proofs.ListSets.{common-of_list, of_list-nothing}

none_of : {K : Type 0} (p : K → Bool) (ks : List K) → AllByRecursion (λ y. p y ≡ false) ks → list_any p ks ≡ false
none_of p ks none = list_any_none p ks (All-from_recursion (λ y. p y ≡ false) ks none)

none_left : {K : Type 0} (p : K → Bool) (ks : List K) → Decides (not (list_any p ks)) (length (filter p ks) ≡ 0)
none_left p [] = (λ so. refl, λ is. refl)
none_left p (k ∷ ks) = elim (p k) as (λ b. Decides (not (b || list_any p ks)) (length (cond b (k ∷ filter p ks) (filter p ks)) ≡ 0)) [
  | true ↦ (λ so. absurd (true≢false (sym so)), λ is. absurd (omega arith))
  | false ↦ none_left p ks
]

-- the place where a key would go
abbrev pub Gap : {K : Type 0} → (K → K → Ordering) → K → List K → ℕ → Type 0
Gap R x ks at = IsPartitionPoint (λ y. R y x ≡ Less) (λ y. R y x ≡ Greater) ks at

module _ {K : Type 0} (R : K → K → Ordering) where
  -- the place among the keys behind the first
  gap_tail : (x k : K) (ks : List K) (at : ℕ) → Gap R x (k ∷ ks) (suc at) → Gap R x ks at
  gap_tail x k ks at gap = (λ i d from below. gap.0 (suc i) d (omega arith) (omega arith), λ i d from below. gap.1 (suc i) d (omega arith) (omega arith))

  gap_behind : (x k : K) (ks : List K) → Gap R x (k ∷ ks) zero → Gap R x ks zero
  gap_behind x k ks gap = (λ i d from below. absurd (omega arith), λ i d from below. gap.1 (suc i) d (omega arith) (omega arith))

all_with : {K : Type 0} (P : K → Type 0) (x : K) → P x → (ks : List K) (at : ℕ) → AllByRecursion P ks → AllByRecursion P (insert ks at x)
all_with P x here ks zero all = (here, all)
all_with P x here [] (suc at) all = (here, tt)
all_with P x here (k ∷ ks) (suc at) all = (all.0, all_with P x here ks at all.1)

all_without : {K : Type 0} (P : K → Type 0) (ks : List K) (at : ℕ) → AllByRecursion P ks → AllByRecursion P (remove ks at)
all_without P [] zero all = tt
all_without P [] (suc at) all = tt
all_without P (k ∷ ks) zero all = all.1
all_without P (k ∷ ks) (suc at) all = (all.0, all_without P ks at all.1)

pub sorted-remove : {K : Type 0} (R : K → K → Ordering) (ks : List K) (at : ℕ) → IsStrictlySortedBy R ks → IsStrictlySortedBy R (remove ks at)
unfolding IsStrictlySortedBy
sorted-remove R [] zero sorted = tt
sorted-remove R [] (suc at) sorted = tt
sorted-remove R (k ∷ ks) zero sorted = sorted.1
sorted-remove R (k ∷ ks) (suc at) sorted = (all_without _ ks at sorted.0, sorted-remove R ks at sorted.1)

module _ {K : Type 0} {R : K → K → Ordering} (total : IsTotalOrder R) where
  turned : (x y : K) → R y x ≡ Greater → R x y ≡ Less
  turned x y greater = total.antisymm x y ∙ ap ordering_reverse greater

  all_after : (x : K) (ks : List K) → Gap R x ks zero → AllByRecursion (λ y. R x y ≡ Less) ks
  all_after x [] gap = tt
  all_after x (k ∷ ks) gap = (turned x k (gap.1 zero k (omega arith) (omega arith)), all_after x ks (gap_behind R x k ks gap))

  pub sorted-insert : (x : K) (ks : List K) (at : ℕ) → Gap R x ks at → IsStrictlySortedBy R ks → IsStrictlySortedBy R (insert ks at x)
  unfolding IsStrictlySortedBy
  sorted-insert x ks zero gap sorted = (all_after x ks gap, sorted)
  sorted-insert x [] (suc at) gap sorted = (tt, tt)
  sorted-insert x (k ∷ ks) (suc at) gap sorted = (
    all_with (λ y. R k y ≡ Less) x (gap.0 zero k (omega arith) (omega arith)) ks at sorted.0,
    sorted-insert x ks at (gap_tail R x k ks at gap) sorted.1,
  )

  -- a key that has a gap is not there
  pub absent-gap : (x : K) (ks : List K) (at : ℕ) → Gap R x ks at → list_any (eq_by_cmp R x) ks ≡ false
  absent-gap x [] at gap = refl
  absent-gap x (k ∷ ks) zero gap =
      ap (λ o. is_eq o || list_any (eq_by_cmp R x) ks) (turned x k (gap.1 zero k (omega arith) (omega arith)))
      ∙ absent-gap x ks zero (gap_behind R x k ks gap)
  absent-gap x (k ∷ ks) (suc at) gap =
      ap (λ o. is_eq o || list_any (eq_by_cmp R x) ks) (total.antisymm x k ∙ ap ordering_reverse (gap.0 zero k (omega arith) (omega arith)))
      ∙ absent-gap x ks at (gap_tail R x k ks at gap)

  -- ---- searches

  -- the keys' comparisons with a key rise along the list, as a search by halves asks
  comparisons_rise : (x : K) (ks : List K) → IsStrictlySortedBy R ks → IsNonDecreasingBy (λ y. ordering_index (R y x)) ks
  comparisons_rise x ks sorted = searchable_from_sorted total (λ k. k) ks x (λ k d from below.
      ap is_lt (total.antisymm (get_or ks (k + 1) d) (get_or ks k d) ∙ ap ordering_reverse (Less-from_sorted R ks k (k + 1) d sorted (omega arith) below)))

  pub gap-search : (x : K) (ks : List K) (at : ℕ) → IsStrictlySortedBy R ks → IsBinarySearchResult (λ y. R y x) ks (Err at) → Gap R x ks at
  gap-search x ks at sorted found = found (comparisons_rise x ks sorted)

  -- behind the last key
  pub gap-end : (x last : K) (ks : List K) → IsStrictlySortedBy R ks → slice_get ks (length ks - 1) ≡ Some last → R last x ≡ Less → Gap R x ks (length ks)
  gap-end x last ks sorted at_end less = (λ k d from below. cases k d below, λ k d from below. absurd (omega arith))
    where
      cases : (k : ℕ) (d : K) → k < length ks → R (get_or ks k d) x ≡ Less
      cases k d below = elim (cases_lt k (length ks - 1)) [
        | inl before ↦ total.trans (get_or ks k d) last x
            (subst (λ y. R (get_or ks k d) y ≡ Less) (get_or_from_slice_get ks (length ks - 1) last d at_end) (Less-from_sorted R ks k (length ks - 1) d sorted before (omega arith)))
            less
        | inr end ↦
            let here : k ≡ length ks - 1 = omega arith in
            subst (λ y. R y x ≡ Less) (sym (ap (λ i. get_or ks i d) here ∙ get_or_from_slice_get ks (length ks - 1) last d at_end)) less
      ]

  pub there-found : (x : K) (ks : List K) (at : ℕ) → slice_get ks at ≡ Some x → list_any (eq_by_cmp R x) ks ≡ true
  there-found x ks at is = any_passes_from_place (eq_by_cmp R x) ks at x is (ap is_eq (tied_itself total x))

module _ {K : Type 0} {R : K → K → Ordering} (total : IsTotalOrder R) (exact : IsAntisymmetric R) where
  pub found-search : (x : K) (ks : List K) (at : ℕ) → at < length ks → IsBinarySearchResult (λ y. R y x) ks (Ok at) → slice_get ks at ≡ Some x
  found-search x ks at below found = slice_get-get_or ks at x below ∙ ap Some (exact (get_or ks at x) x (found x))

  -- ---- sets of lists after a key is put in or taken out

  pub of_list-insert : (x : K) (ks : List K) (at : ℕ) → of_list {R = R} (insert ks at x) ≡ with_one (of_list ks) x
  of_list-insert x ks at = same_set total exact _ _ (λ q.
      has-of_list total (insert ks at x) q
      ∙ sym (list_any-IsPermutation (eq_by_cmp R q) (x ∷ ks) (insert ks at x) (IsPermutation-insert ks at x))
      ∙ ap (λ b. eq_by_cmp R q x || b) (sym (has-of_list total ks q))
      ∙ sym (has-with_one total (of_list ks) x q))

  -- a key that is there already
  pub with_one-there : (s : FinSet R) (x : K) → has s x ≡ true → with_one s x ≡ s
  with_one-there s x there = same_set total exact _ _ (λ q.
      has-with_one total s x q ∙ or_known (eq_by_cmp R q x) (has s q) (λ tie. sym (has_tied total s q x ((Equal-is (R q x)).0 tie)) ∙ there))

  -- a key that isn't there
  pub without-absent : (s : FinSet R) (x : K) → has s x ≡ false → without s x ≡ s
  without-absent s x absent = same_set total exact _ _ (λ q.
      has-without total s x q ∙ and_known (eq_by_cmp R q x) (has s q) (λ tie. sym (has_tied total s q x ((Equal-is (R q x)).0 tie)) ∙ absent))

  -- a key of a list that rises is there once
  once : (x : K) (ks : List K) (at : ℕ) → IsStrictlySortedBy R ks → at < length ks → x ≡ get_or ks at x → list_any (eq_by_cmp R x) (remove ks at) ≡ false
  once x ks at sorted below is =
      none_of _ (remove ks at) (IsDistinct-head (eq_by_cmp R) x (remove ks at)
      (IsDistinct-IsPermutation (eq_by_cmp R) (eq_by_cmp_equiv total).symm ks (x ∷ remove ks at) (IsPermutation-remove ks at x below is) (IsDistinct-from_sorted R ks sorted)))

  pub of_list-remove : (x : K) (ks : List K) (at : ℕ) → IsStrictlySortedBy R ks → slice_get ks at ≡ Some x → of_list {R = R} (remove ks at) ≡ without (of_list ks) x
  of_list-remove x ks at sorted found = same_set total exact _ _ (λ q.
      has-of_list total (remove ks at) q
      ∙ taken_away (eq_by_cmp R q x) (list_any (eq_by_cmp R q) (remove ks at)) (λ tie. subst (λ k. list_any (eq_by_cmp R k) (remove ks at) ≡ false) (sym (exact q x ((Equal-is (R q x)).0 tie))) (once x ks at sorted below is))
      ∙ ap (λ b. not (eq_by_cmp R q x) && b) (sym (list_any-IsPermutation (eq_by_cmp R q) ks (x ∷ remove ks at) (IsPermutation-remove ks at x below is)) ∙ sym (has-of_list total ks q))
      ∙ sym (has-without total (of_list ks) x q))
    where
      below : at < length ks
      below = slice_get_within ks at x found

      is : x ≡ get_or ks at x
      is = sym (get_or_from_slice_get ks at x x found)

  -- ---- a list that is sorted, with repeated keys once

  any-dedup_from : (E : K → K → Bool) (p : K → Bool) → ((x y : K) → E x y ≡ true → p x ≡ p y) → (k : K) (ks : List K) → list_any p (dedup E (k ∷ ks)) ≡ (p k || list_any p ks)
  any-dedup_from E p alike k [] = refl
  any-dedup_from E p alike k (x ∷ ks) = elim (E x k) as (λ same. E x k ≡ same → list_any p (cond same (dedup E (k ∷ ks)) (k ∷ dedup E (x ∷ ks))) ≡ (p k || (p x || list_any p ks))) [
    | true ↦ λ is. any-dedup_from E p alike k ks ∙ repeated (p k) (p x) (list_any p ks) (alike x k is)
    | false ↦ λ is. ap (λ b. p k || b) (any-dedup_from E p alike x ks)
  ] refl

  pub of_list-dedup : (E : K → K → Bool) → ((x y : K) → E x y ≡ eq_by_cmp R x y) → (xs ys : List K) → IsPermutation xs ys → of_list {R = R} (dedup E ys) ≡ of_list xs
  of_list-dedup E ties xs ys moves = same_set total exact _ _ (λ q.
      has-of_list total (dedup E ys) q ∙ any_dedup q ys ∙ sym (list_any-IsPermutation (eq_by_cmp R q) xs ys moves) ∙ sym (has-of_list total xs q))
    where
      any_dedup : (q : K) (ks : List K) → list_any (eq_by_cmp R q) (dedup E ks) ≡ list_any (eq_by_cmp R q) ks
      any_dedup q [] = refl
      any_dedup q (k ∷ ks) = any-dedup_from E (eq_by_cmp R q) (λ x y same. ap (eq_by_cmp R q) (exact x y ((Equal-is (R x y)).0 (sym (ties x y) ∙ same)))) k ks

  -- ---- keys of a list in another set

  -- no key of the list is in the set
  pub disjoint_list : (ks : List K) (t : FinSet R) (r : Bool) → r ≡ not (list_any (has t) ks) → Decides r (common (of_list ks) t ≡ nothing)
  disjoint_list ks t r is =
      subst (λ s. Decides r (s ≡ nothing)) (common-of_list total exact ks t)
      (of_list-nothing total (filter (has t) ks) r (rw is (none_left (has t) ks)))

  -- ---- what a search for a key answers

  pub there-search : (x : K) (ks : List K) (r : Result ℕ ℕ) → IsStrictlySortedBy R ks → IsSearchInRange r (length ks) → IsBinarySearchResult (λ y. R y x) ks r → is_ok r ≡ list_any (eq_by_cmp R x) ks
  there-search x ks (Ok at) sorted bound found = sym (there-found total x ks at (found-search x ks at bound found))
  there-search x ks (Err at) sorted bound found = sym (absent-gap total x ks at (gap-search total x ks at sorted found))

  pub ok-search : (x : K) (ks : List K) (r : Result ℕ ℕ) → IsSearchInRange r (length ks) → IsBinarySearchResult (λ y. R y x) ks r → IfOk r (λ at. slice_get ks at ≡ Some x)
  ok-search x ks (Ok at) bound found = found-search x ks at bound found
  ok-search x ks (Err at) bound found = tt

  pub err-search : (x : K) (ks : List K) (r : Result ℕ ℕ) → IsStrictlySortedBy R ks → IsBinarySearchResult (λ y. R y x) ks r → IfErr r (Gap R x ks)
  err-search x ks (Ok at) sorted found = tt
  err-search x ks (Err at) sorted found = gap-search total x ks at sorted found

  -- a key behind the others
  pub of_list-push : (ks : List K) (x : K) → of_list {R = R} (ks ++ x ∷ []) ≡ with_one (of_list ks) x
  of_list-push ks x = ap of_list (sym (insert_end ks x)) ∙ of_list-insert x ks (length ks)

-- ---- lists whose keys come before the next ones

-- of the first n keys each comes before the next
abbrev pub RisesTo : {K : Type 0} → (K → K → Ordering) → List K → ℕ → Type 0
RisesTo {K} R ks n = (k : ℕ) (x y : K) → suc k < n → slice_get ks k ≡ Some x → slice_get ks (suc k) ≡ Some y → R x y ≡ Less

above_all : {K : Type 0} {R : K → K → Ordering} → IsTotalOrder R → (x y : K) (ks : List K) → R x y ≡ Less → AllByRecursion (λ z. R y z ≡ Less) ks → AllByRecursion (λ z. R x z ≡ Less) ks
above_all total x y [] low all = tt
above_all total x y (z ∷ ks) low all = (total.trans x y z low all.0, above_all total x y ks low all.1)

pub sorted-RisesTo : {K : Type 0} {R : K → K → Ordering} → IsTotalOrder R → (ks : List K) (n : ℕ) → length ks ≤ n → RisesTo R ks n → IsStrictlySortedBy R ks
unfolding IsStrictlySortedBy
sorted-RisesTo total [] n all rises = tt
sorted-RisesTo total (x ∷ []) n all rises = (tt, tt)
sorted-RisesTo total (x ∷ y ∷ ks) n all rises =
    let low = rises 0 x y (omega (arith, all)) refl refl in
    let rest = sorted-RisesTo total (y ∷ ks) (n - 1) (omega (arith, all)) (λ k a b below here next. rises (suc k) a b (omega (arith, below)) here next) in
    ((low, above_all total x y ks low rest.0), rest)
