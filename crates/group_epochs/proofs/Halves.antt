-- What searches by halves find among the places in member order.
use Rattle.std.proofs.Common.{◌≡◌, ℕ, zero, suc, ◌<◌, ◌≤◌, Bool, true, false, Option, Some, None, List, [], ◌∷◌, ◌++◌, length, get_or, slice_get, take, drop, String, refl, sym, ap, subst, ◌∙◌, true≢false, inl, inr, arith}
use Rattle.std.specs.Prelude.{string_bytes}
use Rattle.std.specs.Cmp.{tied_itself}
use Rattle.std.specs.List.{AllByRecursion}
use Rattle.std.specs.List.Sorted.{IsNonDecreasingBy, IsPartitionPoint, IsPartitionedBy}
use Rattle.std.specs.Ordering.{is_lt, ordering_index, ordering_then}
use Rattle.std.specs.declared.cmp.Ordering.{Ordering}
use Rattle.std.specs.declared.cmp.Ordering.TheVariants.{Less, Equal, Greater}
use Rattle.std.specs.Str.{bytes_eq}
use Rattle.std.specs.String.{string_eq, string_eq_equiv}
use Rattle.std.proofs.Math.ListN.{length-map}
use Rattle.std.proofs.lemmas.Bool.{cases_lt, cases_order}
use Rattle.std.proofs.lemmas.List.{get_or-map, take-append-drop}
use Rattle.std.proofs.lemmas.Map.Entries.{lookup_from_place, place_from_lookup}
use Rattle.std.proofs.lemmas.Map.Keys.{Less-from_sorted}
use Rattle.std.proofs.lemmas.Option.{get_or_from_slice_get, slice_get_within}
use Rattle.indexmap.specs.IndexMap.{IndexMap, IsUnique}
use Rattle.group_types.specs.Text.{Text, text_cmp}
use Rattle.group_types.proofs.Orders.{text_cmp_total, text_cmp-IsAntisymmetric}
use Rattle.group_types.specs.Places.{key_at, keys_at}
use Rattle.group_epochs.specs.Table.{IsMemberOrder, IsNobodys, IsOfMemberWith, IsSplitAt, Key, instance_order, key_cmp, keys_in, no_key}
use Rattle.group_epochs.specs.declared.entry.Entry.{Entry}
use Rattle.group_epochs.proofs.Keys.{key_cmp_total, key_found}
use Rattle.group_epochs.proofs.Ranked.{all_in_member_order}

-- ---- lists

all_of_take : {A : Type 0} (P : A → Type 0) (xs : List A) (r : ℕ) → ((k : ℕ) (d : A) → 0 ≤ k → k < r → P (get_or xs k d)) → AllByRecursion P (take r xs)
all_of_take P xs zero all = tt
all_of_take P [] (suc r) all = tt
all_of_take P (x ∷ xs) (suc r) all = (all 0 x (omega arith) (omega arith), all_of_take P xs r (λ k d low below. all (suc k) d (omega arith) (omega (arith, below))))

all_of_drop : {A : Type 0} (P : A → Type 0) (xs : List A) (r : ℕ) → ((k : ℕ) (d : A) → r ≤ k → k < length xs → P (get_or xs k d)) → AllByRecursion P (drop r xs)
all_of_drop P [] zero all = tt
all_of_drop P [] (suc r) all = tt
all_of_drop P (x ∷ xs) zero all = (all 0 x (omega arith) (omega arith), all_of_drop P xs zero (λ k d low below. all (suc k) d (omega arith) (omega (arith, below))))
all_of_drop P (x ∷ xs) (suc r) all = all_of_drop P xs r (λ k d low below. all (suc k) d (omega (arith, low)) (omega (arith, below)))

lt_is_less : (o : Ordering) → is_lt o ≡ true → o ≡ Less
lt_is_less Less so = refl
lt_is_less Equal so = absurd (true≢false (sym so))
lt_is_less Greater so = absurd (true≢false (sym so))

at_most_two : (o : Ordering) → ordering_index o ≤ 2
at_most_two Less = omega arith
at_most_two Equal = omega arith
at_most_two Greater = omega arith

-- ---- the places that come before a key

module _ {Y : Type 0} (rows : List (String Y × Entry)) (places : List ℕ) (order : IsMemberOrder rows places) where
  abbrev key_of_place : ℕ → Key
  key_of_place = key_at no_key (keys_in rows)

  keys_rise : (i j d : ℕ) → i < j → j < length places → key_cmp (key_of_place (get_or places i d)) (key_of_place (get_or places j d)) ≡ Less
  keys_rise i j d below inside =
      let long = length-map places key_of_place in
      let first : i < length places = omega (arith, below, inside) in
      (λ t. key_cmp (sym (get_or-map key_of_place places i d no_key first) t) (sym (get_or-map key_of_place places j d no_key inside) t))
      ∙ Less-from_sorted key_cmp (keys_at no_key (keys_in rows) places) i j no_key order.rise below (omega (arith, long, inside))

  module _ (k : Key) where
    abbrev pub comes_before : ℕ → Bool
    comes_before place = is_lt (key_cmp (key_of_place place) k)

    pub places_parted : IsPartitionedBy comes_before places
    places_parted = λ i j d low inside before.
        elim (cases_order i j) [
          | inl same ↦ subst (λ n. comes_before (get_or places n d) ≡ true) (sym same) before
          | inr other ↦ elim other [
            | inl below ↦
                ap is_lt
                (key_cmp_total.trans (key_of_place (get_or places i d)) (key_of_place (get_or places j d)) k (keys_rise i j d below inside)
                (lt_is_less (key_cmp (key_of_place (get_or places j d)) k) before))
            | inr above ↦ absurd (omega (arith, low, above))
          ]
        ]

    pub split_there : (r : ℕ) → IsPartitionPoint (λ p. comes_before p ≡ true) (λ p. comes_before p ≡ false) places r → (before after : List ℕ) → before ≡ take r places → after ≡ drop r places
        → IsSplitAt (keys_in rows) places k before after
    split_there r point before after is_before is_after =
        record {
          all = (λ i. is_before i ++ is_after i) ∙ take-append-drop r places;
          below =
              subst (AllByRecursion (λ p. key_cmp (key_of_place p) k ≡ Less)) (sym is_before)
              (all_of_take (λ p. key_cmp (key_of_place p) k ≡ Less) places r (λ i d low below. lt_is_less (key_cmp (key_of_place (get_or places i d)) k) (point.0 i d low below)));
          above =
              subst (AllByRecursion (λ p. comes_before p ≡ false)) (sym is_after)
              (all_of_drop (λ p. comes_before p ≡ false) places r point.1);
        }

-- ---- an instance

module _ (i : Text) where
  texts_rise : (a b : Text) → text_cmp a b ≡ Less → ordering_index (text_cmp a i) ≤ ordering_index (text_cmp b i)
  texts_rise a b less = by (text_cmp b i) refl
    where
      first : text_cmp a i ≡ Less → (n : ℕ) → ordering_index (text_cmp a i) ≤ n
      first is n = subst (λ o. ordering_index o ≤ n) (sym is) (omega arith)

      by : (o : Ordering) → text_cmp b i ≡ o → ordering_index (text_cmp a i) ≤ ordering_index o
      by Less is = first (text_cmp_total.trans a b i less is) 0
      by Equal is = first (ap (text_cmp a) (sym (text_cmp-IsAntisymmetric b i is)) ∙ less) 1
      by Greater is = at_most_two (text_cmp a i)

  instances_rise : (a b : Key) → key_cmp a b ≡ Less → ordering_index (instance_order i a.0) ≤ ordering_index (instance_order i b.0)
  instances_rise (None, m) (None, n) less = omega arith
  instances_rise (None, m) (Some b, n) less = cc
  instances_rise (Some a, m) (None, n) less = at_most_two (text_cmp a i)
  instances_rise (Some a, m) (Some b, n) less = by (text_cmp a b) refl less
    where
      by : (o : Ordering) → text_cmp a b ≡ o → ordering_then o (text_cmp m n) ≡ Less → ordering_index (text_cmp a i) ≤ ordering_index (text_cmp b i)
      by Less is _ = texts_rise a b is
      by Equal is _ = subst (λ t. ordering_index (text_cmp a i) ≤ ordering_index (text_cmp t i)) (text_cmp-IsAntisymmetric a b is) (omega arith)
      by Greater is greater = cc

  equal_instance : (o : Option Text) → instance_order i o ≡ Equal → o ≡ Some i
  equal_instance None is = cc
  equal_instance (Some own) is = ap Some (text_cmp-IsAntisymmetric own i is)

  module _ {Y S : Type 0} (members : IndexMap (String Y) Entry S) (places : List ℕ) (order : IsMemberOrder members.entries places) (distinct : IsUnique string_eq members) where
    abbrev pub order_at : ℕ → Ordering
    order_at place = instance_order i (key_at no_key (keys_in members.entries) place).0

    pub searched_rises : IsNonDecreasingBy (λ place. ordering_index (order_at place)) places
    searched_rises = λ a b d low inside.
        elim (cases_order a b) [
          | inl same ↦ subst (λ n. ordering_index (order_at (get_or places a d)) ≤ ordering_index (order_at (get_or places n d))) same (omega arith)
          | inr other ↦ elim other [
            | inl below ↦
                instances_rise (key_at no_key (keys_in members.entries) (get_or places a d)) (key_at no_key (keys_in members.entries) (get_or places b d))
                (keys_rise members.entries places order a b d below inside)
            | inr above ↦ absurd (omega (arith, low, above))
          ]
        ]

    -- where the search finds a place, the member there has it
    pub found_there : (p : ℕ) (k : String Y) (e : Entry) → slice_get members.entries p ≡ Some (k, e) → order_at p ≡ Equal → IsOfMemberWith i members e
    found_there p k e is equal =
        record {
          id = string_bytes k;
          there = lookup_from_place string_eq_equiv members.entries p k e distinct is;
          same = equal_instance e.kept.instance (ap (λ (l : Key). instance_order i l.0) (sym (key_found members.entries p (k, e) is)) ∙ equal);
        }

    -- where it finds none, nobody has it
    pub nobody_there : (r : ℕ) → IsPartitionPoint (λ p. order_at p ≡ Less) (λ p. order_at p ≡ Greater) places r → IsNobodys i members
    nobody_there r point m e is same =
        let rows = members.entries in
        let at = place_from_lookup (λ (k : String Y). bytes_eq m (string_bytes k)) rows e is in
        let rank = (all_in_member_order rows places distinct order).listed at.0 (slice_get_within rows at.0 (at.1, e) at.2) in
        let here = slice_get_within places rank.0 at.0 rank.1 in
        let equal : order_at (get_or places rank.0 0) ≡ Equal =
        ap order_at (get_or_from_slice_get places rank.0 at.0 0 rank.1)
        ∙ ap (λ (l : Key). instance_order i l.0) (key_found rows at.0 (at.1, e) at.2)
        ∙ ap (instance_order i) same
        ∙ tied_itself text_cmp_total i in
        elim (cases_lt rank.0 r) [
          | inl below ↦ let less = point.0 rank.0 0 (omega arith) below in cc
          | inr above ↦ let greater = point.1 rank.0 0 above here in cc
        ]
