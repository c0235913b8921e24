-- Entries that rise by their keys are the entries of the finite map of them.
use Rattle.std.proofs.Common.{◌≡◌, ℕ, zero, suc, ◌<◌, Bool, true, false, cond, ◌&&◌, T, List, [], ◌∷◌, ◌++◌, map, length, get_or, Option, Some, None, refl, sym, ap, subst, ◌∙◌, true≢false, arith, IsPermutation}
use Rattle.std.specs.declared.cmp.Ordering.{Ordering}
use Rattle.std.specs.declared.cmp.Ordering.TheVariants.{Less, Equal, Greater}
use Rattle.std.specs.Cmp.{Equal-is, IsTotalOrder, eq_by_cmp_equiv, tied_itself}
use Rattle.std.specs.FinMap.{FinMap, IsAntisymmetric, entries, entries_sorted, find, from_entries, get-entries, get-from_entries, is_sorted}
use Rattle.std.specs.FinMap.Entries.{below_all, same_entries}
use Rattle.std.specs.List.{AllByRecursion, IsDistinct, flat_map}
use Rattle.std.specs.List.Sorted.{IsSortedBy}
use Rattle.std.specs.Map.{keys_of, lookup}
use Rattle.std.specs.Option.{option_or}
use Rattle.std.specs.Ordering.{eq_by_cmp, is_eq, is_lt, ordering_reverse, ordering_then}
use Rattle.std.proofs.lemmas.List.Sorted.{IsPermutation-map, ranks_by, sorted_far}
use Rattle.std.proofs.lemmas.Map.Keys.{IsDistinct-head, IsDistinct-tail, IsDistinct-IsPermutation}
use Rattle.indexmap.proofs.MapLemmas.{lookup_permutation}

both : (a b : Bool) → T a → T b → T (a && b)
both true b p q = q
both false b p q = p

first : (a b : Bool) → T (a && b) → T a
first true b p = tt
first false b p = p

second : (a b : Bool) → T (a && b) → T b
second true b p = p
second false b p = absurd p

less : (r : Ordering) → T (is_lt r) → r ≡ Less
less Less p = refl
less Equal p = absurd p
less Greater p = absurd p

lower : (r : Ordering) → r ≡ Less → T (is_lt r)
lower r is = subst (λ o. T (is_lt o)) (sym is) tt

-- ---- entries that are sorted by their keys

before : {K : Type 0} {R : K → K → Ordering} → IsTotalOrder R → (x y : K) → eq_by_cmp R x y ≡ false → is_lt (R y x) ≡ false → R x y ≡ Less
before {R = R} total x y apart after =
    elim (R x y) as (λ o. R x y ≡ o → o ≡ Less) [
      | Less ↦ λ is. refl
      | Equal ↦ λ is. absurd (true≢false (sym (ap is_eq is) ∙ apart))
      | Greater ↦ λ is. absurd (true≢false (sym (ap is_lt (total.antisymm y x ∙ ap ordering_reverse is)) ∙ after))
    ] refl

module _ {K X : Type 0} {R : K → K → Ordering} (total : IsTotalOrder R) where
  -- no later key comes before an earlier one
  abbrev Rises : List (K × X) → Type 0
  Rises es = (i j : ℕ) (d : K × X) → i < j → j < length es → is_lt (R (get_or es j d).0 (get_or es i d).0) ≡ false

  below : (e : K × X) (fs : List (K × X)) → ((j : ℕ) (d : K × X) → j < length fs → is_lt (R (get_or fs j d).0 e.0) ≡ false)
      → AllByRecursion (λ y. eq_by_cmp R e.0 y ≡ false) (keys_of fs) → T (below_all R e.0 fs)
  below e [] far apart = tt
  below e (f ∷ fs) far apart =
      both _ _ (lower _ (before total e.0 f.0 apart.0 (far zero f (omega arith)))) (below e fs (λ j d within. far (suc j) d (omega arith)) apart.1)

  rising : (es : List (K × X)) → Rises es → IsDistinct (eq_by_cmp R) (keys_of es) → T (is_sorted R es)
  rising [] rises distinct = tt
  rising (e ∷ es) rises distinct =
      both _ _ (below e es (λ j d within. rises zero (suc j) d (omega arith) (omega arith)) (IsDistinct-head (eq_by_cmp R) e.0 (keys_of es) distinct))
      (rising es (λ i j d low high. rises (suc i) (suc j) d (omega arith) (omega arith)) (IsDistinct-tail (eq_by_cmp R) e.0 (keys_of es) distinct))

  find-lookup : (q : K) (es : List (K × X)) → find R q es ≡ lookup (eq_by_cmp R q) es
  find-lookup q [] = refl
  find-lookup q (e ∷ es) = ap (cond (eq_by_cmp R q e.0) (Some e.1)) (find-lookup q es)

  -- the sorted list of entries whose keys are apart has the entries of their map
  pub entries_from_sort : IsAntisymmetric R → (es fs : List (K × X)) → IsDistinct (eq_by_cmp R) (keys_of es) → IsPermutation es fs
      → IsSortedBy (λ e f. is_lt (R e.0 f.0)) fs → fs ≡ entries (from_entries {R = R} es)
  entries_from_sort exact es fs apart moves sorted =
      same_entries R total exact fs (entries all) (rising fs rises distinct) (entries_sorted all) (λ q.
      find-lookup q fs ∙ lookup_permutation (eq_by_cmp_equiv total) es fs moves distinct (eq_by_cmp R q) ((eq_by_cmp_equiv total).congr q) ∙ sym (find-lookup q es)
      ∙ sym (get-from_entries total es q) ∙ get-entries all q)
    where
      all : FinMap R X
      all = from_entries es

      distinct : IsDistinct (eq_by_cmp R) (keys_of fs)
      distinct = IsDistinct-IsPermutation (eq_by_cmp R) (eq_by_cmp_equiv total).symm (keys_of es) (keys_of fs) (IsPermutation-map (λ e. e.0) es fs moves) apart

      rises : Rises fs
      rises i j d low high = sorted_far (λ e f. is_lt (R e.0 f.0)) (ranks_by total (λ (e : K × X). e.0)) fs sorted i j d (omega arith) high

-- ---- entries under two keys, where those of one first key stand together

or_none : {A : Type 0} (o : Option A) → option_or o None ≡ o
or_none None = refl
or_none (Some x) = refl

one_more : {X : Type 0} (a b : Bool) (x : X) (o p : Option X) → cond (a && b) (Some x) (cond a (option_or o p) p) ≡ cond a (option_or (cond b (Some x) o) p) p
one_more true true x o p = refl
one_more true false x o p = refl
one_more false b x o p = refl

same_either : {X : Type 0} (b : Bool) (o : Option X) → o ≡ cond b o o
same_either true o = refl
same_either false o = refl

module _ {N I V X : Type 0} (P : N → N → Ordering) (S : I → I → Ordering) (total : IsTotalOrder P) (exact : IsAntisymmetric P)
    (eq-both : (p q : N × I) → eq_by_cmp (λ (a b : N × I). ordering_then (P a.0 b.0) (S a.1 b.1)) p q ≡ (eq_by_cmp P p.0 q.0 && eq_by_cmp S p.1 q.1))
    (rows_of : V → List (I × X)) (in_order : (v : V) → T (is_sorted S (rows_of v))) where
  abbrev by_both : N × I → N × I → Ordering
  by_both a b = ordering_then (P a.0 b.0) (S a.1 b.1)

  abbrev under : N → I × X → (N × I) × X
  under n e = ((n, e.0), e.1)

  -- those of each first key, one after the other
  abbrev all_rows : List (N × V) → List ((N × I) × X)
  all_rows rows = flat_map (λ r. map (under r.0) (rows_of r.1)) rows

  below_append : (x : N × I) (es fs : List ((N × I) × X)) → T (below_all by_both x es) → T (below_all by_both x fs) → T (below_all by_both x (es ++ fs))
  below_append x [] fs p q = q
  below_append x (e ∷ es) fs p q = both _ _ (first _ _ p) (below_append x es fs (second _ _ p) q)

  below_name : (n m : N) (i : I) → P n m ≡ Less → (es : List (I × X)) → T (below_all by_both (n, i) (map (under m) es))
  below_name n m i is [] = tt
  below_name n m i is (e ∷ es) = both _ _ (lower _ (ap (λ r. ordering_then r (S i e.0)) is)) (below_name n m i is es)

  below_index : (n : N) (i : I) (es : List (I × X)) → T (below_all S i es) → T (below_all by_both (n, i) (map (under n) es))
  below_index n i [] p = tt
  below_index n i (e ∷ es) p =
      both _ _ (lower _ (ap (λ r. ordering_then r (S i e.0)) (tied_itself total n) ∙ less _ (first _ _ p))) (below_index n i es (second _ _ p))

  below_rows : (n : N) (i : I) (rows : List (N × V)) → T (below_all P n rows) → T (below_all by_both (n, i) (all_rows rows))
  below_rows n i [] p = tt
  below_rows n i (r ∷ rows) p =
      below_append (n, i) (map (under r.0) (rows_of r.1)) (all_rows rows) (below_name n r.0 i (less _ (first _ _ p)) (rows_of r.1)) (below_rows n i rows (second _ _ p))

  sorted_before : (n : N) (es : List (I × X)) (rest : List ((N × I) × X)) → T (is_sorted S es) → ((i : I) → T (below_all by_both (n, i) rest)) → T (is_sorted by_both rest)
      → T (is_sorted by_both (map (under n) es ++ rest))
  sorted_before n [] rest p behind q = q
  sorted_before n (e ∷ es) rest p behind q =
      both _ _ (below_append (n, e.0) (map (under n) es) rest (below_index n e.0 es (first _ _ p)) (behind e.0)) (sorted_before n es rest (second _ _ p) behind q)

  pub sorted-all_rows : (rows : List (N × V)) → T (is_sorted P rows) → T (is_sorted by_both (all_rows rows))
  sorted-all_rows [] p = tt
  sorted-all_rows (r ∷ rows) p =
      sorted_before r.0 (rows_of r.1) (all_rows rows) (in_order r.1) (λ i. below_rows r.0 i rows (first _ _ p)) (sorted-all_rows rows (second _ _ p))

  -- ---- look-ups

  abbrev pub found_in : Option V → I → Option X
  found_in None i = None
  found_in (Some v) i = find S i (rows_of v)

  find-before : (n : N) (es : List (I × X)) (rest : List ((N × I) × X)) (q : N × I)
      → find by_both q (map (under n) es ++ rest) ≡ cond (eq_by_cmp P q.0 n) (option_or (find S q.1 es) (find by_both q rest)) (find by_both q rest)
  find-before n [] rest q = same_either (eq_by_cmp P q.0 n) (find by_both q rest)
  find-before n (e ∷ es) rest q =
      (λ j. cond (eq-both q (n, e.0) j) (Some e.1) (find-before n es rest q j))
      ∙ one_more (eq_by_cmp P q.0 n) (eq_by_cmp S q.1 e.0) e.1 (find S q.1 es) (find by_both q rest)

  missed : (n : N) (rows : List (N × V)) → T (below_all P n rows) → find P n rows ≡ None
  missed n [] p = refl
  missed n (r ∷ rows) p = ap (λ o. cond (is_eq o) (Some r.1) (find P n rows)) (less _ (first _ _ p)) ∙ missed n rows (second _ _ p)

  pub find-all_rows : (rows : List (N × V)) → T (is_sorted P rows) → (q : N × I) → find by_both q (all_rows rows) ≡ found_in (find P q.0 rows) q.1
  find-all_rows [] p q = refl
  find-all_rows (r ∷ rows) p q =
      find-before r.0 (rows_of r.1) (all_rows rows) q
      ∙ ap (λ o. cond (eq_by_cmp P q.0 r.0) (option_or (find S q.1 (rows_of r.1)) o) o) (find-all_rows rows (second _ _ p) q)
      ∙ by (eq_by_cmp P q.0 r.0) refl
    where
      by : (b : Bool) → eq_by_cmp P q.0 r.0 ≡ b
          → cond b (option_or (find S q.1 (rows_of r.1)) (found_in (find P q.0 rows) q.1)) (found_in (find P q.0 rows) q.1) ≡ found_in (cond b (Some r.1) (find P q.0 rows)) q.1
      by true same =
          let none = ap (λ n. find P n rows) (exact q.0 r.0 ((Equal-is (P q.0 r.0)).0 same)) ∙ missed r.0 rows (first _ _ p) in
          ap (λ o. option_or (find S q.1 (rows_of r.1)) (found_in o q.1)) none ∙ or_none (find S q.1 (rows_of r.1))
      by false apart = refl
