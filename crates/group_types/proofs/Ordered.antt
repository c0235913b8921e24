-- The places of keys in the order of the keys: searches, and what putting one in or taking one out keeps.
use Rattle.std.proofs.Common.{◌≡◌, ◌≢◌, ℕ, zero, suc, ◌-◌, ◌<◌, ◌≤◌, Bool, true, false, cond, not, ◌||◌, ◌&&◌, ◌==◌, Some, List, [], ◌∷◌, ◌++◌, length, map, get_or, set, slice_get, Result, Ok, Err, refl, sym, ap, subst, ◌∙◌, true≢false, arith}
use Rattle.std.specs.Prelude.{option_map}
use Rattle.std.specs.List.{AllByRecursion, IsDistinct, insert, list_any, remove, swap_remove}
use Rattle.std.specs.List.Sorted.{IsBinarySearchResult, IsPartitionPoint, IsPermutation, IsSearchInRange, IsStrictlySortedBy}
use Rattle.std.specs.Ordering.{eq_by_cmp, ordering_index}
use Rattle.std.specs.Cmp.{Equal-is, IsTotalOrder, eq_by_cmp_equiv, tied_itself}
use Rattle.std.specs.FinMap.{IsAntisymmetric}
use Rattle.std.specs.declared.cmp.Ordering.{Ordering}
use Rattle.std.specs.declared.cmp.Ordering.TheVariants.{Less, Greater}
use Rattle.std.proofs.lemmas.Bool.Decides.{Decides-eqb}
use Rattle.std.proofs.lemmas.List.{get_or-map, get_or-set_other, get_or-set_same, get_or-take, get_or_append_left, get_or_default, length-append, length-set, length-take-le}
use Rattle.std.proofs.Math.ListN.{length-map}
use Rattle.std.proofs.Math.Seq.{get_or-append_seam}
use Rattle.std.proofs.lemmas.List.Folds.{list_any-append}
use Rattle.std.proofs.lemmas.List.Sorted.{IsPermutation-insert, IsPermutation-remove, IsPermutation-swap_remove, list_any-IsPermutation}
use Rattle.std.proofs.lemmas.Map.Keys.{IsDistinct-head, IsDistinct-IsPermutation, IsDistinct-tail}
use Rattle.std.proofs.lemmas.Option.{slice_get-get_or, slice_get_within, get_or_from_slice_get}
use Rattle.group_types.specs.Sets.{has, of_list}
use Rattle.group_types.proofs.BoolLemmas.{taken_away}
use Rattle.group_types.proofs.RisingLists.{absent-gap, found-search, gap-search, of_list-remove, sorted-insert, sorted-remove, there-found}
use Rattle.group_types.proofs.SetLemmas.{has-of_list, has-without}
use Rattle.group_types.proofs.ListLemmas.{map-insert, map-remove}
use Rattle.group_types.specs.Places.{IsOrder, IsRankIn, key_at, keys_at, renumbered}

-- ---- lists of places

map_same : {A B : Type 0} (f g : A → B) (xs : List A) → AllByRecursion (λ x. f x ≡ g x) xs → map f xs ≡ map g xs
map_same f g [] all = refl
map_same f g (x ∷ xs) all = λ i. all.0 i ∷ map_same f g xs all.1 i

map_map : {A B C : Type 0} (f : B → C) (g : A → B) (xs : List A) → map f (map g xs) ≡ map (λ x. f (g x)) xs
map_map f g [] = refl
map_map f g (x ∷ xs) = ap (λ l. f (g x) ∷ l) (map_map f g xs)

weaker : {A : Type 0} (P Q : A → Type 0) → ((x : A) → P x → Q x) → (xs : List A) → AllByRecursion P xs → AllByRecursion Q xs
weaker P Q so [] all = tt
weaker P Q so (x ∷ xs) all = (so x all.0, weaker P Q so xs all.1)

both : {A : Type 0} (P Q : A → Type 0) (xs : List A) → AllByRecursion P xs → AllByRecursion Q xs → AllByRecursion (λ x. P x × Q x) xs
both P Q [] ps qs = tt
both P Q (x ∷ xs) ps qs = ((ps.0, qs.0), both P Q xs ps.1 qs.1)

all-insert : {A : Type 0} (P : A → Type 0) (x : A) → P x → (xs : List A) (i : ℕ) → AllByRecursion P xs → AllByRecursion P (insert xs i x)
all-insert P x here xs zero all = (here, all)
all-insert P x here [] (suc i) all = (here, tt)
all-insert P x here (y ∷ ys) (suc i) all = (all.0, all-insert P x here ys i all.1)

pub all-remove : {A : Type 0} (P : A → Type 0) (xs : List A) (i : ℕ) → AllByRecursion P xs → AllByRecursion P (remove xs i)
all-remove P [] zero all = tt
all-remove P [] (suc i) all = tt
all-remove P (x ∷ xs) zero all = all.1
all-remove P (x ∷ xs) (suc i) all = (all.0, all-remove P xs i all.1)

all-map : {A B : Type 0} (P : B → Type 0) (f : A → B) (xs : List A) → AllByRecursion (λ x. P (f x)) xs → AllByRecursion P (map f xs)
all-map P f [] all = tt
all-map P f (x ∷ xs) all = (all.0, all-map P f xs all.1)

of-map : {A B : Type 0} (P : B → Type 0) (f : A → B) (xs : List A) → AllByRecursion P (map f xs) → AllByRecursion (λ x. P (f x)) xs
of-map P f [] all = tt
of-map P f (x ∷ xs) all = (all.0, of-map P f xs all.1)

pub at_place : {A : Type 0} (P : A → Type 0) (xs : List A) (i : ℕ) (d : A) → i < length xs → AllByRecursion P xs → P (get_or xs i d)
at_place P [] i d within all = absurd (omega (arith, within))
at_place P (x ∷ xs) zero d within all = all.0
at_place P (x ∷ xs) (suc i) d within all = at_place P xs i d (omega (arith, within)) all.1

pub slice_get_of_map : {A B : Type 0} (f : A → B) (xs : List A) (i : ℕ) → slice_get (map f xs) i ≡ option_map f (slice_get xs i)
slice_get_of_map f [] i = refl
slice_get_of_map f (x ∷ xs) zero = refl
slice_get_of_map f (x ∷ xs) (suc i) = slice_get_of_map f xs i

-- no number stands twice
abbrev pub AreApart : List ℕ → Type 0
AreApart [] = Unit {0}
AreApart (p ∷ ps) = AllByRecursion (λ k. p ≢ k) ps × AreApart ps

-- where an element passes a test
any_at : {A : Type 0} (test : A → Bool) (xs : List A) (d : A) → list_any test xs ≡ true → (i : ℕ) × (i < length xs) × (test (get_or xs i d) ≡ true)
any_at test [] d any = absurd (true≢false (sym any))
any_at test (x ∷ xs) d any = by (test x) refl any (any_at test xs d)
  where
    by : (b : Bool) → test x ≡ b → (b || list_any test xs) ≡ true → (list_any test xs ≡ true → (i : ℕ) × (i < length xs) × (test (get_or xs i d) ≡ true))
        → (i : ℕ) × (i < length (x ∷ xs)) × (test (get_or (x ∷ xs) i d) ≡ true)
    by true passes _ _ = (0, omega arith, passes)
    by false _ any later = let rest = later any in (suc rest.0, omega (arith, rest.1), rest.2)

remove-set : {A : Type 0} (xs : List A) (i : ℕ) (x : A) → remove (set xs i x) i ≡ remove xs i
remove-set [] zero x = refl
remove-set [] (suc i) x = refl
remove-set (y ∷ ys) zero x = refl
remove-set (y ∷ ys) (suc i) x = ap (λ l. y ∷ l) (remove-set ys i x)

-- ---- keys in a total order in which only equal keys tie

module _ {K : Type 0} (R : K → K → Ordering) (total : IsTotalOrder R) (anti : IsAntisymmetric R) (default : K) where
  itself : (k : K) → eq_by_cmp R k k ≡ true
  itself k = (eq_by_cmp_equiv total).refl k

  same_key : (k l : K) → eq_by_cmp R k l ≡ true → k ≡ l
  same_key k l so = anti k l ((Equal-is (R k l)).0 so)

  -- ---- a search by halves

  module _ (keys : List K) (places : List ℕ) (m : K) where
    key_of_place : (i : ℕ) (d : K) → i < length places → get_or (keys_at default keys places) i d ≡ key_at default keys (get_or places i 0)
    key_of_place i d within = get_or-map (key_at default keys) places i 0 d within

    -- what a search of the places finds, a search of their keys finds
    search_keys : (r : Result ℕ ℕ) → IsSearchInRange r (length places) → IsBinarySearchResult (λ k. R (key_at default keys k) m) places r
        → IsBinarySearchResult (λ t. R t m) (keys_at default keys places) r
    search_keys (Ok i) within found = λ d. ap (λ t. R t m) (key_of_place i d within) ∙ found 0
    search_keys (Err i) within found = λ rises.
        let long = length-map places (key_at default keys) in
        let point = found (λ a b d low high.
        let in_b : b < length places = high in
        let in_a : a < length places = omega (arith, low, high) in
        subst (λ n. n ≤ ordering_index (R (key_at default keys (get_or places b d)) m)) (ap (λ t. ordering_index (R t m)) (get_or-map (key_at default keys) places a d default in_a))
        (subst (λ n. ordering_index (R (get_or (keys_at default keys places) a default) m) ≤ n) (ap (λ t. ordering_index (R t m)) (get_or-map (key_at default keys) places b d default in_b))
        (rises a b default low (omega (arith, long, high))))) in (
          λ k d low high. ap (λ t. R t m) (key_of_place k d (omega arith)) ∙ point.0 k 0 low high,
          λ k d low high. let in_k : k < length places = omega arith in ap (λ t. R t m) (key_of_place k d in_k) ∙ point.1 k 0 low in_k,
        )

    pub rank_searched : (r : Result ℕ ℕ) → IsStrictlySortedBy R (keys_at default keys places) → IsSearchInRange r (length places) → IsBinarySearchResult (λ k. R (key_at default keys k) m) places r → IsRankIn R default keys places m r
    rank_searched (Ok i) rise within found =
        let long = length-map places (key_at default keys) in
        (within, found-search total anti m (keys_at default keys places) i (omega (arith, within)) (search_keys (Ok i) within found))
    rank_searched (Err i) rise within found =
        (within, gap-search total m (keys_at default keys places) i rise (search_keys (Err i) within found))

    -- a key that isn't there has no rank, and one that is there has
    pub no_rank : (i : ℕ) → IsOrder R default keys places → list_any (eq_by_cmp R m) keys ≡ false → IsRankIn R default keys places m (Ok i) → ⊥
    no_rank i order none rank =
        true≢false (sym (there-found total m (keys_at default keys places) i rank.1) ∙ order.all m ∙ none)

    pub some_rank : (i : ℕ) → IsOrder R default keys places → list_any (eq_by_cmp R m) keys ≡ true → IsRankIn R default keys places m (Err i) → ⊥
    some_rank i order there rank =
        true≢false (sym there ∙ sym (order.all m) ∙ absent-gap total m (keys_at default keys places) i rank.1)

  -- the place at a rank
  pub rank_place : (keys : List K) (places : List ℕ) (m : K) (r p : ℕ) → IsOrder R default keys places → IsRankIn R default keys places m (Ok r) → p ≡ get_or places r p → (p < length keys) × (key_at default keys p ≡ m)
  rank_place keys places m r p order rank is = (
    subst (λ k. k < length keys) (sym is) (at_place (λ k. k < length keys) places r p rank.0 order.within),
    ap (key_at default keys) is ∙ sym (get_or-map (key_at default keys) places r p default rank.0) ∙ get_or_from_slice_get (keys_at default keys places) r m default rank.1,
  )

  -- ---- a key goes last

  module _ (keys : List K) (places : List ℕ) (m : K) (order : IsOrder R default keys places) where
    one_more : (k : ℕ) → k < length keys → key_at default (keys ++ m ∷ []) k ≡ key_at default keys k
    one_more k within = get_or_append_left keys (m ∷ []) default k within

    keys_with : (i : ℕ) → keys_at default (keys ++ m ∷ []) (insert places i (length keys)) ≡ insert (keys_at default keys places) i m
    keys_with i =
        map-insert (key_at default (keys ++ m ∷ [])) places i (length keys)
        ∙ (λ j. insert (map_same (key_at default (keys ++ m ∷ [])) (key_at default keys) places (weaker (λ k. k < length keys) (λ k. key_at default (keys ++ m ∷ []) k ≡ key_at default keys k) one_more places order.within) j) i (get_or-append_seam keys m [] default j))

    pub order_with : (i : ℕ) → IsRankIn R default keys places m (Err i) → IsOrder R default (keys ++ m ∷ []) (insert places i (length keys))
    order_with i rank =
        let long = length-append keys (m ∷ []) in
        record {
          rise = subst (IsStrictlySortedBy R) (sym (keys_with i)) (sorted-insert total m (keys_at default keys places) i rank.1 order.rise);
          all = λ q.
              ap (list_any (eq_by_cmp R q)) (keys_with i)
              ∙ sym (list_any-IsPermutation (eq_by_cmp R q) (m ∷ keys_at default keys places) (insert (keys_at default keys places) i m) (IsPermutation-insert (keys_at default keys places) i m))
              ∙ ap (λ b. eq_by_cmp R q m || b) (order.all q)
              ∙ last_or (eq_by_cmp R q m) (list_any (eq_by_cmp R q) keys)
              ∙ sym (list_any-append (eq_by_cmp R q) keys (m ∷ []));
          within =
              all-insert (λ k. k < length (keys ++ m ∷ [])) (length keys) (omega (arith, long)) places i
              (weaker (λ k. k < length keys) (λ k. k < length (keys ++ m ∷ [])) (λ k below. omega (arith, long, below)) places order.within);
        }
      where
        last_or : (a b : Bool) → (a || b) ≡ (b || (a || false))
        last_or true true = refl
        last_or true false = refl
        last_or false true = refl
        last_or false false = refl

  -- ---- a key goes, and the last one comes to its place

  less_differs : (a b : K) → R a b ≡ Less → a ≡ b → ⊥
  less_differs a b less same = let tie = ap (R a) (sym same) ∙ tied_itself total a in cc

  -- the others than one of rising keys differ from it
  others_differ : (keys : List K) (r : ℕ) → IsStrictlySortedBy R keys → r < length keys → AllByRecursion (λ t. t ≢ get_or keys r default) (remove keys r)
  unfolding IsStrictlySortedBy
  others_differ [] r rise within = absurd (omega (arith, within))
  others_differ (t ∷ ts) zero rise within = weaker (λ y. R t y ≡ Less) (λ y. y ≢ t) (λ y less same. less_differs t y less (sym same)) ts rise.0
  others_differ (t ∷ ts) (suc r) rise within =
      (λ same. less_differs t (get_or ts r default) (at_place (λ y. R t y ≡ Less) ts r default (omega (arith, within)) rise.0) same, others_differ ts r rise.1 (omega (arith, within)))

  -- a place is at one rank alone
  others_elsewhere : (keys : List K) (places : List ℕ) → IsOrder R default keys places → (r p : ℕ) → r < length places → p ≡ get_or places r 0 → AllByRecursion (λ k. k ≢ p) (remove places r)
  others_elsewhere keys places order r p here is =
      let long = length-map places (key_at default keys) in
      let key_here : get_or (keys_at default keys places) r default ≡ key_at default keys p = get_or-map (key_at default keys) places r 0 default here ∙ ap (key_at default keys) (sym is) in
      weaker (λ k. key_at default keys k ≢ get_or (keys_at default keys places) r default) (λ k. k ≢ p) (λ k other same. other (ap (key_at default keys) same ∙ sym key_here)) (remove places r)
      (of-map (λ t. t ≢ get_or (keys_at default keys places) r default) (key_at default keys) (remove places r)
      (subst (AllByRecursion (λ t. t ≢ get_or (keys_at default keys places) r default)) (map-remove (key_at default keys) places r) (others_differ (keys_at default keys places) r order.rise (omega (arith, long, here)))))

  none_tied : (m : K) (ts : List K) → AllByRecursion (λ t. eq_by_cmp R m t ≡ false) ts → list_any (eq_by_cmp R m) ts ≡ false
  none_tied m [] none = refl
  none_tied m (t ∷ ts) none = ap (λ b. b || list_any (eq_by_cmp R m) ts) none.0 ∙ none_tied m ts none.1

  is_itself : (k : ℕ) → (k == k) ≡ true
  is_itself k = (Decides-eqb k k).1 refl

  -- a key that stands at a place is there
  pub held_there : (keys : List K) (p : ℕ) (m : K) → p < length keys → key_at default keys p ≡ m → list_any (eq_by_cmp R m) keys ≡ true
  held_there [] p m within is = absurd (omega (arith, within))
  held_there (t ∷ ts) zero m within is = ap (λ b. b || list_any (eq_by_cmp R m) ts) (ap (eq_by_cmp R m) is ∙ itself m)
  held_there (t ∷ ts) (suc p) m within is = ap (λ b. eq_by_cmp R m t || b) (held_there ts p m (omega (arith, within)) is) ∙ or_true (eq_by_cmp R m t)
    where
      or_true : (b : Bool) → (b || true) ≡ true
      or_true true = refl
      or_true false = refl

  -- a key that differs from all others is at one place alone
  head_apart : (t : K) (ts : List K) → IsDistinct (eq_by_cmp R) (t ∷ ts) → (j : ℕ) → j < length ts → t ≡ key_at default ts j → ⊥
  head_apart t ts distinct j within same =
      true≢false (sym (itself t) ∙ ap (eq_by_cmp R t) same ∙ at_place (λ y. eq_by_cmp R t y ≡ false) ts j default within (IsDistinct-head (eq_by_cmp R) t ts distinct))

  pub same_place : (keys : List K) → IsDistinct (eq_by_cmp R) keys → (i j : ℕ) → i < length keys → j < length keys → key_at default keys i ≡ key_at default keys j → i ≡ j
  same_place [] distinct i j in_i in_j same = absurd (omega (arith, in_i))
  same_place (t ∷ ts) distinct zero zero in_i in_j same = refl
  same_place (t ∷ ts) distinct zero (suc j) in_i in_j same = absurd (head_apart t ts distinct j (omega (arith, in_j)) same)
  same_place (t ∷ ts) distinct (suc i) zero in_i in_j same = absurd (head_apart t ts distinct i (omega (arith, in_i)) (sym same))
  same_place (t ∷ ts) distinct (suc i) (suc j) in_i in_j same =
      ap suc (same_place ts (IsDistinct-tail (eq_by_cmp R) t ts distinct) i j (omega (arith, in_i)) (omega (arith, in_j)) same)

  -- each place has a rank, and no two ranks have one place
  pub place_listed : (keys : List K) (places : List ℕ) → IsOrder R default keys places → IsDistinct (eq_by_cmp R) keys → (j : ℕ) → j < length keys → (r : ℕ) × (slice_get places r ≡ Some j)
  place_listed keys places order distinct j inside =
      let m = key_at default keys j in
      let at = any_at (eq_by_cmp R m) (keys_at default keys places) default (order.all m ∙ held_there keys j m inside refl) in
      let long = length-map places (key_at default keys) in
      let here : at.0 < length places = omega (arith, long, at.1) in
      let found : key_at default keys (get_or places at.0 0) ≡ m = sym (get_or-map (key_at default keys) places at.0 0 default here) ∙ sym (same_key m (get_or (keys_at default keys places) at.0 default) at.2) in
      let there = at_place (λ k. k < length keys) places at.0 0 here order.within in
      (at.0, slice_get-get_or places at.0 0 here ∙ ap Some (same_place keys distinct (get_or places at.0 0) j there inside found))

  -- the rank of a place is the rank of the key there, and the other way round
  pub key_rank : (keys : List K) (places : List ℕ) (r p : ℕ) → slice_get places r ≡ Some p → IsRankIn R default keys places (key_at default keys p) (Ok r)
  key_rank keys places r p is = (slice_get_within places r p is, slice_get_of_map (key_at default keys) places r ∙ ap (option_map (key_at default keys)) is)

  pub place_rank : (keys : List K) (places : List ℕ) → IsOrder R default keys places → IsDistinct (eq_by_cmp R) keys → (r p : ℕ) → p < length keys
      → IsRankIn R default keys places (key_at default keys p) (Ok r) → slice_get places r ≡ Some p
  place_rank keys places order distinct r p inside rank =
      let q = get_or places r 0 in
      let there = rank_place keys places (key_at default keys p) r q order rank (get_or_default places r 0 q rank.0) in
      slice_get-get_or places r 0 rank.0 ∙ ap Some (same_place keys distinct q p there.0 inside there.1)

  behind_apart : (keys : List K) (p : ℕ) (places : List ℕ) → AllByRecursion (λ k. R (key_at default keys p) k ≡ Less) (keys_at default keys places) → AllByRecursion (λ k. p ≢ k) places
  behind_apart keys p [] all = tt
  behind_apart keys p (k ∷ ks) all = (λ same. less_differs (key_at default keys p) (key_at default keys k) all.0 (ap (key_at default keys) same), behind_apart keys p ks all.1)

  pub places_apart : (keys : List K) (places : List ℕ) → IsStrictlySortedBy R (keys_at default keys places) → AreApart places
  unfolding IsStrictlySortedBy
  places_apart keys [] rise = tt
  places_apart keys (p ∷ ps) rise = (behind_apart keys p ps rise.0, places_apart keys ps rise.1)

  other_number : (last to k : ℕ) → k ≢ last → renumbered last to k ≡ k
  other_number last to k other =
      elim (k == last) as (λ b. (k == last) ≡ b → cond b to k ≡ k) [
        | true ↦ λ so. absurd (other ((Decides-eqb k last).0 so))
        | false ↦ λ so. refl
      ] refl

  others_stay : (last to : ℕ) (ks : List ℕ) → AllByRecursion (λ k. k ≢ last) ks → map (renumbered last to) ks ≡ ks
  others_stay last to [] other = refl
  others_stay last to (k ∷ ks) other = λ i. other_number last to k other.0 i ∷ others_stay last to ks other.1 i

  one_renumbered : (last to : ℕ) (places : List ℕ) (r : ℕ) → r < length places → get_or places r 0 ≡ last → AllByRecursion (λ k. k ≢ last) (remove places r) → set places r to ≡ map (renumbered last to) places
  one_renumbered last to [] r here is other = absurd (omega (arith, here))
  one_renumbered last to (k ∷ ks) zero here is other =
      let own : renumbered last to k ≡ to = ap (renumbered last to) is ∙ ap (λ b. cond b to last) (is_itself last) in
      λ i. sym own i ∷ sym (others_stay last to ks other) i
  one_renumbered last to (k ∷ ks) (suc r) here is other =
      λ i. sym (other_number last to k other.0) i ∷ one_renumbered last to ks r (omega (arith, here)) is other.1 i

  -- to write another number at the rank of a key is to renumber its place
  pub rank_renumbered : (keys : List K) (places : List ℕ) (m : K) (r last to : ℕ) → IsOrder R default keys places → IsDistinct (eq_by_cmp R) keys
      → IsRankIn R default keys places m (Ok r) → last < length keys → key_at default keys last ≡ m → set places r to ≡ map (renumbered last to) places
  rank_renumbered keys places m r last to order distinct rank within named =
      let p = get_or places r 0 in
      let there = rank_place keys places m r p order rank (sym (get_or_default places r p 0 rank.0)) in
      let at_end : p ≡ last = same_place keys distinct p last there.0 within (there.1 ∙ sym named) in
      one_renumbered last to places r rank.0 at_end
      (subst (λ n. AllByRecursion (λ k. k ≢ n) (remove places r)) at_end (others_elsewhere keys places order r p rank.0 refl))

  module _ (keys : List K) (places : List ℕ) (order : IsOrder R default keys places) (distinct : IsDistinct (eq_by_cmp R) keys) (r p : ℕ) (m : K)
      (here : r < length places) (is : p ≡ get_or places r 0) (named : m ≡ key_at default keys p) where
    last : ℕ
    last = length keys - 1

    fewer : List K
    fewer = swap_remove keys p m

    inside : p < length keys
    inside = subst (λ k. k < length keys) (sym is) (at_place (λ k. k < length keys) places r 0 here order.within)

    abbrev moved : List K
    moved = set keys p (get_or keys (length keys - 1) m)

    other_stays : (k : ℕ) → k < length keys - 1 → k ≢ p → key_at default fewer k ≡ key_at default keys k
    unfolding fewer
    other_stays k below other = get_or-take (length keys - 1) moved k default below ∙ get_or-set_other keys p k (get_or keys (length keys - 1) m) default other

    last_comes : p < length keys - 1 → key_at default fewer p ≡ key_at default keys (length keys - 1)
    unfolding fewer
    last_comes below =
        get_or-take (length keys - 1) moved p default below
        ∙ get_or-set_same keys p (get_or keys (length keys - 1) m) default (omega arith)
        ∙ get_or_default keys (length keys - 1) m default (omega arith)

    length_fewer : length fewer ≡ length keys - 1
    unfolding fewer
    length_fewer = let long = length-set keys p (get_or keys (length keys - 1) m) in length-take-le (length keys - 1) moved (omega (arith, long))

    same_key_there : (k : ℕ) → (k < length keys) × (k ≢ p) → key_at default fewer (renumbered (length keys - 1) p k) ≡ key_at default keys k
    same_key_there k known =
        elim (k == (length keys - 1)) as (λ b. (k == (length keys - 1)) ≡ b → key_at default fewer (cond b p k) ≡ key_at default keys k) [
          | true ↦ λ so.
              let at_end : k ≡ length keys - 1 = (Decides-eqb k (length keys - 1)).0 so in
              let below : p < length keys - 1 = apart_below p k known.1 at_end inside in
              last_comes below ∙ ap (key_at default keys) (sym at_end)
          | false ↦ λ so. other_stays k (before_last k known.0 (λ at_end. true≢false (sym ((Decides-eqb k (length keys - 1)).1 at_end) ∙ so))) known.1
        ] refl
      where
        apart_below : (p k : ℕ) → k ≢ p → k ≡ length keys - 1 → p < length keys → p < length keys - 1
        apart_below p k other at_end within = omega (arith, other)

        before_last : (k : ℕ) → k < length keys → (k ≡ length keys - 1 → ⊥) → k < length keys - 1
        before_last k within other = let off : k ≢ length keys - 1 = other in omega (arith, off)

    there_within : (k : ℕ) → (k < length keys) × (k ≢ p) → renumbered (length keys - 1) p k < length fewer
    there_within k known =
        let short = length_fewer in
        elim (k == (length keys - 1)) as (λ b. (k == (length keys - 1)) ≡ b → cond b p k < length fewer) [
          | true ↦ λ so.
              let at_end : k ≡ length keys - 1 = (Decides-eqb k (length keys - 1)).0 so in
              let off = known.1 in let within = inside in omega (arith, at_end, off, within, short)
          | false ↦ λ so.
              let off : k ≢ length keys - 1 = λ at_end. true≢false (sym ((Decides-eqb k (length keys - 1)).1 at_end) ∙ so) in
              let within = known.0 in omega (arith, off, within, short)
        ] refl

    long_keys : r < length (keys_at default keys places)
    long_keys = let long = length-map places (key_at default keys) in omega (arith, long, here)

    key_here : get_or (keys_at default keys places) r default ≡ m
    key_here = get_or-map (key_at default keys) places r 0 default here ∙ ap (key_at default keys) (sym is) ∙ sym named

    rest_known : AllByRecursion (λ k. (k < length keys) × (k ≢ p)) (remove places r)
    rest_known =
        both (λ k. k < length keys) (λ k. k ≢ p) (remove places r) (all-remove (λ k. k < length keys) places r order.within)
        (others_elsewhere keys places order r p here is)

    keys_without : keys_at default fewer (map (renumbered (length keys - 1) p) (remove places r)) ≡ remove (keys_at default keys places) r
    keys_without =
        map_map (key_at default fewer) (renumbered (length keys - 1) p) (remove places r)
        ∙ map_same (λ k. key_at default fewer (renumbered (length keys - 1) p k)) (key_at default keys) (remove places r)
        (weaker (λ k. (k < length keys) × (k ≢ p)) (λ k. key_at default fewer (renumbered (length keys - 1) p k) ≡ key_at default keys k) same_key_there (remove places r) rest_known)
        ∙ sym (map-remove (key_at default keys) places r)

    among_rest : (q : K) → list_any (eq_by_cmp R q) (remove (keys_at default keys places) r) ≡ (not (eq_by_cmp R q m) && list_any (eq_by_cmp R q) keys)
    among_rest q =
        let found : slice_get (keys_at default keys places) r ≡ Some m = slice_get-get_or (keys_at default keys places) r default long_keys ∙ ap Some key_here in
        sym (has-of_list total (remove (keys_at default keys places) r) q)
        ∙ ap (λ s. has s q) (of_list-remove total anti m (keys_at default keys places) r order.rise found)
        ∙ has-without total (of_list (keys_at default keys places)) m q
        ∙ ap (λ b. not (eq_by_cmp R q m) && b) (has-of_list total (keys_at default keys places) q ∙ order.all q)

    moves : IsPermutation keys (m ∷ fewer)
    unfolding fewer
    moves = IsPermutation-swap_remove keys p m inside (named ∙ get_or_default keys p default m inside)

    among_fewer : (q : K) → list_any (eq_by_cmp R q) fewer ≡ (not (eq_by_cmp R q m) && list_any (eq_by_cmp R q) keys)
    among_fewer q =
        taken_away (eq_by_cmp R q m) (list_any (eq_by_cmp R q) fewer)
        (λ so. ap (λ t. list_any (eq_by_cmp R t) fewer) (same_key q m so) ∙ none_tied m fewer (IsDistinct-head (eq_by_cmp R) m fewer (IsDistinct-IsPermutation (eq_by_cmp R) (eq_by_cmp_equiv total).symm keys (m ∷ fewer) moves distinct)))
        ∙ ap (λ b. not (eq_by_cmp R q m) && b) (sym (list_any-IsPermutation (eq_by_cmp R q) keys (m ∷ fewer) moves))

    order_fewer : IsOrder R default fewer (map (renumbered (length keys - 1) p) (remove places r))
    order_fewer =
        record {
          rise = subst (IsStrictlySortedBy R) (sym keys_without) (sorted-remove R (keys_at default keys places) r order.rise);
          all = λ q. ap (list_any (eq_by_cmp R q)) keys_without ∙ among_rest q ∙ sym (among_fewer q);
          within =
              all-map (λ k. k < length fewer) (renumbered (length keys - 1) p) (remove places r)
              (weaker (λ k. (k < length keys) × (k ≢ p)) (λ k. renumbered (length keys - 1) p k < length fewer) there_within (remove places r) rest_known);
        }

    pub order_without : IsOrder R default (swap_remove keys p m) (map (renumbered (length keys - 1) p) (remove places r))
    unfolding fewer
    order_without = order_fewer

    -- ---- the key at the place becomes another one, and its place goes where that one's is

    rest_keys : keys_at default keys (remove places r) ≡ remove (keys_at default keys places) r
    rest_keys = sym (map-remove (key_at default keys) places r)

    module _ (k : K) where
      stays_there : (j : ℕ) → (j < length keys) × (j ≢ p) → key_at default (set keys p k) j ≡ key_at default keys j
      stays_there j known = get_or-set_other keys p j k default known.1

      rest_stays : keys_at default (set keys p k) (remove places r) ≡ remove (keys_at default keys places) r
      rest_stays =
          map_same (key_at default (set keys p k)) (key_at default keys) (remove places r)
          (weaker (λ j. (j < length keys) × (j ≢ p)) (λ j. key_at default (set keys p k) j ≡ key_at default keys j) stays_there (remove places r) rest_known)
          ∙ rest_keys

      own_key : get_or (set keys p k) p default ≡ k
      own_key = get_or-set_same keys p k default inside

      keys_moved : (i : ℕ) → keys_at default (set keys p k) (insert (remove places r) i p) ≡ insert (remove (keys_at default keys places) r) i k
      keys_moved i =
          map-insert (key_at default (set keys p k)) (remove places r) i p
          ∙ (λ j. insert (rest_stays j) i (own_key j))

      moves_out : IsPermutation keys (m ∷ remove keys p)
      moves_out = IsPermutation-remove keys p m inside (named ∙ get_or_default keys p default m inside)

      among_others : (q : K) → list_any (eq_by_cmp R q) (remove keys p) ≡ (not (eq_by_cmp R q m) && list_any (eq_by_cmp R q) keys)
      among_others q =
          taken_away (eq_by_cmp R q m) (list_any (eq_by_cmp R q) (remove keys p))
          (λ so. ap (λ t. list_any (eq_by_cmp R t) (remove keys p)) (same_key q m so) ∙ none_tied m (remove keys p) (IsDistinct-head (eq_by_cmp R) m (remove keys p) (IsDistinct-IsPermutation (eq_by_cmp R) (eq_by_cmp_equiv total).symm keys (m ∷ remove keys p) moves_out distinct)))
          ∙ ap (λ b. not (eq_by_cmp R q m) && b) (sym (list_any-IsPermutation (eq_by_cmp R q) keys (m ∷ remove keys p) moves_out))

      among_renewed : (q : K) → list_any (eq_by_cmp R q) (set keys p k) ≡ (eq_by_cmp R q k || (not (eq_by_cmp R q m) && list_any (eq_by_cmp R q) keys))
      among_renewed q =
          let long = length-set keys p k in
          let there : p < length (set keys p k) = let within = inside in omega (arith, long, within) in
          let out = IsPermutation-remove (set keys p k) p k there (sym own_key ∙ get_or_default (set keys p k) p default k there) in
          list_any-IsPermutation (eq_by_cmp R q) (set keys p k) (k ∷ remove (set keys p k) p) out
          ∙ ap (λ l. eq_by_cmp R q k || list_any (eq_by_cmp R q) l) (remove-set keys p k)
          ∙ ap (λ b. eq_by_cmp R q k || b) (among_others q)

      pub order_moved : (i : ℕ) → IsRankIn R default keys (remove places r) k (Err i) → IsOrder R default (set keys p k) (insert (remove places r) i p)
      order_moved i rank =
          let rest = remove (keys_at default keys places) r in
          let long = length-set keys p k in
          let within = inside in
          record {
            rise =
                subst (IsStrictlySortedBy R) (sym (keys_moved i))
                (sorted-insert total k rest i (subst (λ l. IsPartitionPoint (λ y. R y k ≡ Less) (λ y. R y k ≡ Greater) l i) rest_keys rank.1) (sorted-remove R (keys_at default keys places) r order.rise));
            all = λ q.
                ap (list_any (eq_by_cmp R q)) (keys_moved i)
                ∙ sym (list_any-IsPermutation (eq_by_cmp R q) (k ∷ rest) (insert rest i k) (IsPermutation-insert rest i k))
                ∙ ap (λ b. eq_by_cmp R q k || b) (among_rest q)
                ∙ sym (among_renewed q);
            within =
                all-insert (λ j. j < length (set keys p k)) p (omega (arith, long, within)) (remove places r) i
                (weaker (λ j. j < length keys) (λ j. j < length (set keys p k)) (λ j below. omega (arith, long, below)) (remove places r) (all-remove (λ j. j < length keys) places r order.within));
          }

    -- the place is at no other rank
    pub not_among_rest : AllByRecursion (λ j. j ≢ p) (remove places r)
    not_among_rest = others_elsewhere keys places order r p here is
