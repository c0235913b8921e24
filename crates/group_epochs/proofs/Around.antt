-- The members around one, in member order: with it between them they stand in that order, and they are all others.
use Rattle.std.proofs.Common.{◌≡◌, ℕ, ◌+◌, ◌<◌, ◌==◌, Bool, true, false, not, cond, Option, Some, None, is_some, List, [], ◌∷◌, ◌++◌, length, map, get_or, slice_get, String, refl, sym, ap, subst, ◌∙◌, true≢false, arith}
use Rattle.std.specs.Prelude.{string_bytes, IsPermutation, IsSorted, filter, position}
use Rattle.std.specs.List.{AllByRecursion, IsDistinct}
use Rattle.std.specs.List.Sorted.{IsStrictlySortedBy}
use Rattle.std.specs.Map.{keys_of, lookup}
use Rattle.std.specs.Ordering.{eq_by_cmp, is_lt, ordering_reverse}
use Rattle.std.specs.Cmp.{both_ways, eq_by_cmp_equiv}
use Rattle.std.specs.declared.cmp.Ordering.{Ordering}
use Rattle.std.specs.declared.cmp.Ordering.TheVariants.{Less, Equal, Greater}
use Rattle.std.specs.Str.{bytes_eq}
use Rattle.std.specs.String.{string_eq, string_eq_equiv}
use Rattle.std.proofs.lemmas.Bool.Decides.{Decides-eqb}
use Rattle.std.proofs.lemmas.List.{get_or-map, map-append}
use Rattle.std.proofs.lemmas.List.Elements.{filter-append}
use Rattle.std.proofs.lemmas.List.Quantifiers.{position-Some}
use Rattle.std.proofs.lemmas.List.Sorted.{IsPermutation-map, IsPermutation-middle, IsPermutation-sym}
use Rattle.std.proofs.lemmas.Option.{get_or_from_slice_get, slice_get_within}
use Rattle.std.proofs.lemmas.Slice.Eq.{bytes_eq-Decides}
use Rattle.std.proofs.Math.ListN.{length-map}
use Rattle.std.proofs.lemmas.Map.Entries.{lookup_from_place}
use Rattle.std.proofs.lemmas.Map.Keys.{IsDistinct-IsPermutation, Less-from_sorted}
use Rattle.group_types.specs.Assignors.{IdsAreApart, Subscriber, member_cmp}
use Rattle.group_types.specs.Group.{Record}
use Rattle.group_types.specs.Renewal.{subscriber_of}
use Rattle.group_types.specs.Text.{Text, text_cmp}
use Rattle.group_types.proofs.Lookups.{some_is}
use Rattle.group_types.proofs.Orders.{text_cmp_total}
use Rattle.group_types.specs.Places.{key_at, keys_at}
use Rattle.group_epochs.specs.Table.{IsMemberOrder, IsSplitAt, Key, is_place, key_cmp, keys_in, no_key, other_places, others, rows_at, seen_of, with_row}
use Rattle.group_epochs.specs.declared.entry.Entry.{Entry}
use Rattle.group_epochs.proofs.Keys.{key_cmp_total, key_cmp-IsAntisymmetric, key_found}
use Rattle.group_epochs.proofs.Others.{apart_of_distinct, members_apart}
use Rattle.group_epochs.proofs.Ranked.{AreAll, all_in_member_order, one_place, ordered_distinct, ordered_named, row_there}
use Rattle.group_epochs.proofs.Listed.{listed, listed-append}

-- ---- lists

all_front : {A : Type 0} (P : A → Type 0) (xs ys : List A) → AllByRecursion P (xs ++ ys) → AllByRecursion P xs
all_front P [] ys all = tt
all_front P (x ∷ xs) ys all = (all.0, all_front P xs ys all.1)

all_back : {A : Type 0} (P : A → Type 0) (xs ys : List A) → AllByRecursion P (xs ++ ys) → AllByRecursion P ys
all_back P [] ys all = all
all_back P (x ∷ xs) ys all = all_back P xs ys all.1

all_mapped : {A B : Type 0} (P : B → Type 0) (f : A → B) (xs : List A) → AllByRecursion (λ x. P (f x)) xs → AllByRecursion P (map f xs)
all_mapped P f [] all = tt
all_mapped P f (x ∷ xs) all = (all.0, all_mapped P f xs all.1)

all_kept : {A : Type 0} (P : A → Type 0) (test : A → Bool) (xs : List A) → AllByRecursion P xs → AllByRecursion P (filter test xs)
all_kept P test [] all = tt
all_kept P test (x ∷ xs) all = by (test x) all.0 (all_kept P test xs all.1)
  where
    by : (b : Bool) → P x → AllByRecursion P (filter test xs) → AllByRecursion P (cond b (x ∷ filter test xs) (filter test xs))
    by true here rest = (here, rest)
    by false here rest = rest

module _ {K : Type 0} (R : K → K → Ordering) where
  -- what rises still does where some are left out
  rises_kept : {A : Type 0} (f : A → K) (test : A → Bool) (xs : List A) → IsStrictlySortedBy R (map f xs) → IsStrictlySortedBy R (map f (filter test xs))
  unfolding IsStrictlySortedBy
  rises_kept f test [] rise = tt
  rises_kept f test (x ∷ xs) rise = by (test x) (all_map_kept xs rise.0) (rises_kept f test xs rise.1)
    where
      all_map_kept : (xs : List _) → AllByRecursion (λ y. R (f x) y ≡ Less) (map f xs) → AllByRecursion (λ y. R (f x) y ≡ Less) (map f (filter test xs))
      all_map_kept [] all = tt
      all_map_kept (y ∷ ys) all = keep (test y) all.0 (all_map_kept ys all.1)
        where
          keep : (b : Bool) → R (f x) (f y) ≡ Less → AllByRecursion (λ z. R (f x) z ≡ Less) (map f (filter test ys)) → AllByRecursion (λ z. R (f x) z ≡ Less) (map f (cond b (y ∷ filter test ys) (filter test ys)))
          keep true here rest = (here, rest)
          keep false here rest = rest

      by : (b : Bool) → AllByRecursion (λ y. R (f x) y ≡ Less) (map f (filter test xs)) → IsStrictlySortedBy R (map f (filter test xs)) → IsStrictlySortedBy R (map f (cond b (x ∷ filter test xs) (filter test xs)))
      by true below rest = (below, rest)
      by false below rest = rest

  -- one that comes between
  between : (x k : K) (xs ys : List K) → R x k ≡ Less → AllByRecursion (λ y. R x y ≡ Less) (xs ++ ys) → AllByRecursion (λ y. R x y ≡ Less) (xs ++ k ∷ ys)
  between x k [] ys below all = (below, all)
  between x k (z ∷ zs) ys below all = (all.0, between x k zs ys below all.1)

  rises_around : (xs ys : List K) (k : K) → IsStrictlySortedBy R (xs ++ ys) → AllByRecursion (λ x. R x k ≡ Less) xs → AllByRecursion (λ y. R k y ≡ Less) ys → IsStrictlySortedBy R (xs ++ k ∷ ys)
  unfolding IsStrictlySortedBy
  rises_around [] ys k rise below above = (above, rise)
  rises_around (x ∷ xs) ys k rise below above = (between x k xs ys below.0 rise.0, rises_around xs ys k rise.1 below.1 above)

-- ---- member order

abbrev key_seen : Subscriber → Key
key_seen s = (s.instance, s.id)

-- members whose keys rise are in member order
sorted_by_key : (subs : List Subscriber) → IsStrictlySortedBy key_cmp (map key_seen subs) → IsSorted member_cmp subs
sorted_by_key subs rise = λ k d low high.
    let long = length-map subs key_seen in
    let here : k < length subs = omega (arith, high) in
    let less : key_cmp (key_seen (get_or subs k d)) (key_seen (get_or subs (k + 1) d)) ≡ Less =
    (λ i. key_cmp (sym (get_or-map key_seen subs k d no_key here) i) (sym (get_or-map key_seen subs (k + 1) d no_key high) i))
    ∙ Less-from_sorted key_cmp (map key_seen subs) k (k + 1) no_key rise (omega arith) (omega (arith, long, high)) in
    ap is_lt (key_cmp_total.antisymm (key_seen (get_or subs (k + 1) d)) (key_seen (get_or subs k d)) ∙ ap ordering_reverse less)

-- ---- members around one

module _ {Y : Type 0} (rows : List (String Y × Entry)) (distinct : IsDistinct string_eq (keys_of rows)) (named : (m : Text) (e : Entry) → lookup (λ k. bytes_eq m (string_bytes k)) rows ≡ Some e → e.id ≡ m) where
  key_there : (k : ℕ) (row : String Y × Entry) → slice_get rows k ≡ Some row → key_seen (seen_of row) ≡ key_at no_key (keys_in rows) k
  key_there k row is =
      (λ i. (row.1.kept.instance, named (string_bytes row.0) row.1 (lookup_from_place string_eq_equiv rows k row.0 row.1 distinct is) i))
      ∙ sym (key_found rows k row is)

  keys_seen : (ps : List ℕ) → AllByRecursion (λ k. k < length rows) ps → map key_seen (map seen_of (rows_at rows ps)) ≡ keys_at no_key (keys_in rows) ps
  keys_seen [] within = refl
  keys_seen (k ∷ ks) within =
      let row = row_there rows k within.0 in
      ap (λ o. map key_seen (map seen_of (with_row o (rows_at rows ks)))) row.1
      ∙ (λ i. key_there k row.0 row.1 i ∷ keys_seen ks within.1 i)

  module _ (m : Text) (own : Option ℕ) (own_is : own ≡ position (λ k. bytes_eq m (string_bytes k)) (keys_of rows)) (there : is_some own ≡ is_some (lookup (λ k. bytes_eq m (string_bytes k)) rows)) where
    -- a place is the own one where the id stands there
    own_place : (o : Option ℕ) → own ≡ o → (k : ℕ) (row : String Y × Entry) → slice_get rows k ≡ Some row → is_place o k ≡ bytes_eq (string_bytes row.0) m
    own_place None is k row at =
        both_ways false (bytes_eq (string_bytes row.0) m) (λ so. absurd (true≢false (sym so)))
        (λ so. absurd (true≢false
        (sym (ap is_some (ap (λ t. lookup (λ k. bytes_eq t (string_bytes k)) rows) (sym ((bytes_eq-Decides (string_bytes row.0) m).0 so)) ∙ lookup_from_place string_eq_equiv rows k row.0 row.1 distinct at))
        ∙ sym there ∙ ap is_some is)))
    own_place (Some p) is k row at =
        let found = position-Some (λ k. bytes_eq m (string_bytes k)) (keys_of rows) p row.0 (sym own_is ∙ is) in
        let long = length-map rows (λ (row : String Y × Entry). row.0) in
        let mine = row_there rows p (omega (arith, long, found.0)) in
        let text : string_bytes mine.0.0 ≡ m =
        sym ((bytes_eq-Decides m (string_bytes mine.0.0)).0 (ap (λ k. bytes_eq m (string_bytes k)) (sym (key_of_row rows p row.0 mine.0 mine.1)) ∙ found.1)) in
        both_ways (p == k) (bytes_eq (string_bytes row.0) m)
        (λ so. (bytes_eq-Decides (string_bytes row.0) m).1
        (ap (λ (r : String Y × Entry). string_bytes r.0) (some_is row mine.0 (sym at ∙ ap (slice_get rows) (sym ((Decides-eqb p k).0 so)) ∙ mine.1)) ∙ text))
        (λ so. (Decides-eqb p k).1
        (one_place rows distinct p k mine.0 row mine.1 at ((bytes_eq-Decides (string_bytes mine.0.0) (string_bytes row.0)).1 (text ∙ sym ((bytes_eq-Decides (string_bytes row.0) m).0 so)))))
      where
        key_of_row : (rows : List (String Y × Entry)) (p : ℕ) (d : String Y) (row : String Y × Entry) → slice_get rows p ≡ Some row → get_or (keys_of rows) p d ≡ row.0
        key_of_row rows p d row is = get_or-map (λ (r : String Y × Entry). r.0) rows p row d (slice_get_within rows p row is) ∙ ap (λ (r : String Y × Entry). r.0) (get_or_from_slice_get rows p row row is)

    -- to leave the own place out is to leave the own row out
    others_at : (ps : List ℕ) → AllByRecursion (λ k. k < length rows) ps → rows_at rows (other_places own ps) ≡ others m (rows_at rows ps)
    others_at [] within = refl
    others_at (k ∷ ks) within =
        let row = row_there rows k within.0 in
        ap (λ b. rows_at rows (cond (not b) (k ∷ other_places own ks) (other_places own ks))) (own_place own refl k row.0 row.1)
        ∙ by row.0 row.1 (bytes_eq (string_bytes row.0.0) m) (others_at ks within.1)
        ∙ sym (ap (λ o. others m (with_row o (rows_at rows ks))) row.1)
      where
        by : (row : String Y × Entry) → slice_get rows k ≡ Some row → (b : Bool) → rows_at rows (other_places own ks) ≡ others m (rows_at rows ks)
            → rows_at rows (cond (not b) (k ∷ other_places own ks) (other_places own ks)) ≡ cond (not b) (row ∷ others m (rows_at rows ks)) (others m (rows_at rows ks))
        by row is true rest = rest
        by row is false rest = λ i. with_row (is i) (rest i)

    module _ (places before after : List ℕ) (order : IsMemberOrder rows places) (r : Record) (split : IsSplitAt (keys_in rows) places (r.instance, m) before after) where
      abbrev own_key : Key
      own_key = (r.instance, m)

      abbrev seen : Subscriber
      seen = subscriber_of (m, r)

      abbrev key_of_place : ℕ → Key
      key_of_place = key_at no_key (keys_in rows)

      abbrev front : List ℕ
      front = other_places own before

      abbrev back : List ℕ
      back = other_places own after

      abbrev pub around_listed : List Subscriber
      around_listed = map seen_of (rows_at rows front) ++ seen ∷ map seen_of (rows_at rows back)

      all : AreAll rows places
      all = all_in_member_order rows places distinct order

      within_both : AllByRecursion (λ k. k < length rows) (before ++ after)
      within_both = subst (AllByRecursion (λ k. k < length rows)) (sym split.all) all.within

      within_before : AllByRecursion (λ k. k < length rows) before
      within_before = all_front (λ k. k < length rows) before after within_both

      within_after : AllByRecursion (λ k. k < length rows) after
      within_after = all_back (λ k. k < length rows) before after within_both

      -- they are all others, and the own one
      pub listed_around : IsPermutation (seen ∷ listed rows m places) around_listed
      listed_around =
          let parts : listed rows m places ≡ map seen_of (rows_at rows front) ++ map seen_of (rows_at rows back) =
          ap (listed rows m) (sym split.all)
          ∙ listed-append rows m before after
          ∙ (λ i. map seen_of (sym (others_at before within_before) i) ++ map seen_of (sym (others_at after within_after) i)) in
          subst (λ l. IsPermutation (seen ∷ l) around_listed) (sym parts)
          (IsPermutation-sym around_listed (seen ∷ map seen_of (rows_at rows front) ++ map seen_of (rows_at rows back))
          (IsPermutation-middle (map seen_of (rows_at rows front)) seen (map seen_of (rows_at rows back))))

      -- the others come behind the own key
      behind : (k : ℕ) (row : String Y × Entry) → slice_get rows k ≡ Some row → is_place own k ≡ false → is_lt (key_cmp (key_of_place k) own_key) ≡ false → key_cmp own_key (key_of_place k) ≡ Less
      behind k row at other above = by (key_cmp (key_of_place k) own_key) refl above
        where
          by : (o : Ordering) → key_cmp (key_of_place k) own_key ≡ o → is_lt o ≡ false → key_cmp own_key (key_of_place k) ≡ Less
          by Less is above = absurd (true≢false above)
          by Equal is above =
              let same : string_bytes row.0 ≡ m = ap (λ (k : Key). k.1) (sym (key_found rows k row at) ∙ key_cmp-IsAntisymmetric (key_of_place k) own_key is) in
              absurd (true≢false (sym ((bytes_eq-Decides (string_bytes row.0) m).1 same) ∙ sym (own_place own refl k row at) ∙ other))
          by Greater is above = key_cmp_total.antisymm own_key (key_of_place k) ∙ ap ordering_reverse is

      all_behind : (ps : List ℕ) → AllByRecursion (λ k. k < length rows) ps → AllByRecursion (λ k. is_lt (key_cmp (key_of_place k) own_key) ≡ false) ps
          → AllByRecursion (λ k. key_cmp own_key (key_of_place k) ≡ Less) (other_places own ps)
      all_behind [] within above = tt
      all_behind (k ∷ ks) within above = by (is_place own k) refl (all_behind ks within.1 above.1)
        where
          by : (b : Bool) → is_place own k ≡ b → AllByRecursion (λ k. key_cmp own_key (key_of_place k) ≡ Less) (other_places own ks)
              → AllByRecursion (λ k. key_cmp own_key (key_of_place k) ≡ Less) (cond (not b) (k ∷ other_places own ks) (other_places own ks))
          by true is rest = rest
          by false is rest = let row = row_there rows k within.0 in (behind k row.0 row.1 is above.0, rest)

      keys_rise : IsStrictlySortedBy key_cmp (keys_at no_key (keys_in rows) front ++ own_key ∷ keys_at no_key (keys_in rows) back)
      keys_rise =
          let kept = rises_kept key_cmp key_of_place (λ k. not (is_place own k)) places order.rise in
          let parts : keys_at no_key (keys_in rows) (other_places own places) ≡ keys_at no_key (keys_in rows) front ++ keys_at no_key (keys_in rows) back =
          ap (λ ps. keys_at no_key (keys_in rows) (other_places own ps)) (sym split.all)
          ∙ ap (keys_at no_key (keys_in rows)) (filter-append (λ k. not (is_place own k)) before after)
          ∙ map-append key_of_place front back in
          rises_around key_cmp (keys_at no_key (keys_in rows) front) (keys_at no_key (keys_in rows) back) own_key (subst (IsStrictlySortedBy key_cmp) parts kept)
          (all_mapped (λ l. key_cmp l own_key ≡ Less) key_of_place front (all_kept (λ k. key_cmp (key_of_place k) own_key ≡ Less) (λ k. not (is_place own k)) before split.below))
          (all_mapped (λ l. key_cmp own_key l ≡ Less) key_of_place back (all_behind after within_after split.above))

      -- they are in member order
      pub sorted_around : IsSorted member_cmp around_listed
      sorted_around =
          let kept_front = all_kept (λ k. k < length rows) (λ k. not (is_place own k)) before within_before in
          let kept_back = all_kept (λ k. k < length rows) (λ k. not (is_place own k)) after within_after in
          let keys : map key_seen around_listed ≡ keys_at no_key (keys_in rows) front ++ own_key ∷ keys_at no_key (keys_in rows) back =
          map-append key_seen (map seen_of (rows_at rows front)) (seen ∷ map seen_of (rows_at rows back))
          ∙ (λ i. keys_seen front kept_front i ++ own_key ∷ keys_seen back kept_back i) in
          sorted_by_key around_listed (subst (IsStrictlySortedBy key_cmp) (sym keys) keys_rise)

      -- no two have one id
      pub apart_around : IdsAreApart around_listed
      apart_around =
          let id : Subscriber → Text = λ s. s.id in
          let one = members_apart (rows_at rows places) m r (ordered_distinct rows places all distinct) (ordered_named rows places all distinct named) in
          apart_of_distinct around_listed
          (IsDistinct-IsPermutation (eq_by_cmp text_cmp) (eq_by_cmp_equiv text_cmp_total).symm (map id (seen ∷ listed rows m places)) (map id around_listed)
          (IsPermutation-map id (seen ∷ listed rows m places) around_listed listed_around) one)
