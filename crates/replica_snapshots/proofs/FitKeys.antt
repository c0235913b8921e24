-- Sets and maps whose keys fit, and how many keys a set has.
use Rattle.std.proofs.Common.{◌≡◌, ◌+◌, ◌≤◌, Bool, true, false, cond, ◌&&◌, ◌||◌, List, [], ◌∷◌, length, filter, refl, sym, ap, subst, ◌∙◌, arith, true≢false}
use Rattle.std.specs.declared.cmp.Ordering.{Ordering}
use Rattle.std.specs.declared.cmp.Ordering.TheVariants.{Less, Equal, Greater}
use Rattle.std.specs.Cmp.{IsTotalOrder, Equal-is, eq_by_cmp_equiv}
use Rattle.std.specs.FinMap.{IsAntisymmetric, put}
use Rattle.std.specs.FinMap.Entries.{by_order}
use Rattle.std.specs.List.{AllByRecursion, list_any}
use Rattle.std.specs.Ordering.{eq_by_cmp}
use Rattle.group_types.specs.Sets.{FinSet, common, has, in_order, of_list, size}
use Rattle.group_types.proofs.ListSets.{common-of_list, of_list-in_order}
use Rattle.group_types.proofs.SetLemmas.{has-common, has-in_order, same_set, size-nothing, size-with_one}

or_true : (b : Bool) → (b || true) ≡ true
or_true true = refl
or_true false = refl

and_of : (a b : Bool) → (b ≡ true → a ≡ true) → (a && b) ≡ b
and_of true b so = refl
and_of false true so = so refl
and_of false false so = refl

no_longer : {X : Type 0} (test : X → Bool) (xs : List X) → length (filter test xs) ≤ length xs
no_longer test [] = omega arith
no_longer test (x ∷ xs) =
    let rest = no_longer test xs in
    elim (test x) as (λ b. length (cond b (x ∷ filter test xs) (filter test xs)) ≤ length (x ∷ xs)) [ true ↦ omega (arith, rest) | false ↦ omega (arith, rest) ]

module _ {K : Type 0} {R : K → K → Ordering} (total : IsTotalOrder R) (exact : IsAntisymmetric R) where
  -- what holds of each of a list holds of a key that is among them
  pub among : (P : K → Type 0) (ks : List K) (q : K) → AllByRecursion P ks → list_any (eq_by_cmp R q) ks ≡ true → P q
  among P [] q all there = absurd (true≢false (sym there))
  among P (k ∷ ks) q all there = by (eq_by_cmp R q k) (among P ks q all.1) refl there
    where
      by : (b : Bool) → (list_any (eq_by_cmp R q) ks ≡ true → P q) → eq_by_cmp R q k ≡ b → (b || list_any (eq_by_cmp R q) ks) ≡ true → P q
      by true behind so _ = subst P (sym (exact q k ((Equal-is (R q k)).0 so))) all.0
      by false behind _ later = behind later

  each_among : (P : K → Type 0) (ks : List K) → ((q : K) → list_any (eq_by_cmp R q) ks ≡ true → P q) → AllByRecursion P ks
  each_among P [] each = tt
  each_among P (k ∷ ks) each = (
    each k (ap (λ b. b || list_any (eq_by_cmp R k) ks) ((eq_by_cmp_equiv total).refl k)),
    each_among P ks (λ q there. each q (ap (λ b. eq_by_cmp R q k || b) there ∙ or_true (eq_by_cmp R q k))),
  )

  -- what holds of whatever a set has holds of each of its keys
  pub each_key : (P : K → Type 0) (s : FinSet R) → ((q : K) → has s q ≡ true → P q) → AllByRecursion P (in_order s)
  each_key P s each = each_among P (in_order s) (λ q there. each q (has-in_order s q ∙ there))

  -- a set has no more keys than the list of which it is made
  pub few_of_list : (ks : List K) → size (of_list {R = R} ks) ≤ length ks
  few_of_list [] = omega (arith, size-nothing R)
  few_of_list (k ∷ ks) =
      let rest = few_of_list ks in
      let one : cond (has (of_list {R = R} ks) k) (size (of_list {R = R} ks)) (size (of_list {R = R} ks) + 1) ≤ size (of_list {R = R} ks) + 1 =
      elim (has (of_list {R = R} ks) k) as (λ b. cond b (size (of_list {R = R} ks)) (size (of_list {R = R} ks) + 1) ≤ size (of_list {R = R} ks) + 1) [ true ↦ omega arith | false ↦ omega arith ] in
      omega (arith, rest, one, size-with_one total (of_list ks) k)

  -- .. and no more than another set that has all of them
  pub fewer_keys : (s t : FinSet R) → ((q : K) → has s q ≡ true → has t q ≡ true) → size s ≤ size t
  fewer_keys s t within =
      let part : common t s ≡ s = same_set total exact (common t s) s (λ q. has-common total t s q ∙ and_of (has t q) (has s q) (within q)) in
      let listed : of_list {R = R} (filter (has s) (in_order t)) ≡ s =
      common-of_list total exact (in_order t) s ∙ ap (λ u. common u s) (of_list-in_order total exact t) ∙ part in
      omega (arith, ap size listed, few_of_list (filter (has s) (in_order t)), no_longer (has s) (in_order t))

  -- what holds of each entry of a map, and of one that is put in, holds of each afterwards
  pub put_in : {X : Type 0} (P : K × X → Type 0) (k : K) (v : X) (es : List (K × X)) → P (k, v) → AllByRecursion P es → AllByRecursion P (put R k v es)
  put_in P k v [] one all = (one, tt)
  put_in P k v (e ∷ es) one all = by (R k e.0) (put_in P k v es one all.1) refl
    where
      by : (o : Ordering) → AllByRecursion P (put R k v es) → R k e.0 ≡ o → AllByRecursion P (by_order o ((k, v) ∷ e ∷ es) ((e.0, v) ∷ es) (e ∷ put R k v es))
      by Less behind is = (one, all)
      by Equal behind is = (subst (λ (x : K). P (x, v)) (exact k e.0 is) one, all.1)
      by Greater behind is = (all.0, behind)
