-- Keys in member order: the order is total, only equal keys tie in it, and what the members' keys are after a change.
use Rattle.std.proofs.Common.{◌≡◌, ℕ, zero, suc, ◌<◌, length, Bool, true, false, cond, ◌||◌, get_or, set, arith, ◌∙◌, Option, Some, None, List, [], ◌∷◌, ◌++◌, slice_get, String, refl, sym, ap, true≢false}
use Rattle.std.specs.Prelude.{string_bytes}
use Rattle.std.specs.Cmp.{Equal-is, IsTotalOrder, eq_by_cmp_equiv, on_total}
use Rattle.std.specs.FinMap.{IsAntisymmetric}
use Rattle.std.specs.List.{AllByRecursion, IsDistinct, list_any, swap_remove}
use Rattle.std.specs.Map.{keys_of, lookup, set_value}
use Rattle.std.specs.Str.{bytes_eq}
use Rattle.std.proofs.lemmas.Slice.Eq.{bytes_eq-Decides}
use Rattle.std.proofs.lemmas.List.{map-append}
use Rattle.std.proofs.Math.ListN.{length-map}
use Rattle.indexmap.proofs.SetLemmas.{map-swap_remove}
use Rattle.std.specs.Ordering.{eq_by_cmp, ordering_then}
use Rattle.std.specs.declared.cmp.Ordering.{Ordering}
use Rattle.std.specs.declared.cmp.Ordering.TheVariants.{Less, Equal, Greater}
use Rattle.group_types.specs.Assignors.{Subscriber}
use Rattle.group_types.specs.Text.{Text, text_cmp}
use Rattle.group_types.specs.Sets.{nothing}
use Rattle.group_types.proofs.Lookups.{tie, not_none, some_is}
use Rattle.group_types.proofs.Orders.{text_cmp_total, text_cmp-IsAntisymmetric}
use Rattle.range_assign.proofs.MemberOrder.{member_cmp_total}
use Rattle.group_types.specs.Places.{key_at}
use Rattle.group_epochs.specs.Table.{Key, key_cmp, key_of, keys_in, no_key, rekeyed, text_at, texts_in}
use Rattle.group_epochs.specs.declared.entry.Entry.{Entry}
use Rattle.group_types.proofs.Ordered.{same_place}
use Rattle.group_epochs.proofs.Rows.{length-texts_in}

-- a member with the key
abbrev with_key : Key → Subscriber
with_key k = record { id = k.1; instance = k.0; names = nothing; assignor = None }

pub key_cmp_total : IsTotalOrder key_cmp
key_cmp_total = on_total with_key member_cmp_total

both_tie : (a b : Ordering) → ordering_then a b ≡ Equal → (a ≡ Equal) × (b ≡ Equal)
both_tie Less b is = cc
both_tie Equal b is = (refl, is)
both_tie Greater b is = cc

pub key_cmp-IsAntisymmetric : IsAntisymmetric key_cmp
key_cmp-IsAntisymmetric (Some a, m) (Some b, n) tie =
    let equal = both_tie (text_cmp a b) (text_cmp m n) tie in
    λ i. (Some (text_cmp-IsAntisymmetric a b equal.0 i), text_cmp-IsAntisymmetric m n equal.1 i)
key_cmp-IsAntisymmetric (Some a, m) (None, n) tie = cc
key_cmp-IsAntisymmetric (None, m) (Some b, n) tie = cc
key_cmp-IsAntisymmetric (None, m) (None, n) tie = λ i. (None, text_cmp-IsAntisymmetric m n tie i)

-- keys that tie have one id
same_id : (k l : Key) → eq_by_cmp key_cmp k l ≡ true → k.1 ≡ l.1
same_id k l so = ap (λ (k : Key). k.1) (key_cmp-IsAntisymmetric k l ((Equal-is (key_cmp k l)).0 so))

apart_keys : (k l : Key) → eq_by_cmp text_cmp k.1 l.1 ≡ false → eq_by_cmp key_cmp k l ≡ false
apart_keys k l apart =
    elim (eq_by_cmp key_cmp k l) as (λ b. eq_by_cmp key_cmp k l ≡ b → b ≡ false) [
      | true ↦ λ so. absurd (true≢false (sym ((eq_by_cmp_equiv text_cmp_total).refl k.1) ∙ ap (eq_by_cmp text_cmp k.1) (same_id k l so) ∙ apart))
      | false ↦ λ _. refl
    ] refl

none_of : (a b : Bool) → (a || b) ≡ false → (a ≡ false) × (b ≡ false)
none_of false b none = (refl, none)
none_of true b none = absurd (true≢false none)

module _ {Y : Type 0} where
  keys_apart : (k : Key) (rows : List (String Y × Entry)) → AllByRecursion (λ t. eq_by_cmp text_cmp k.1 t ≡ false) (texts_in rows) → AllByRecursion (λ l. eq_by_cmp key_cmp k l ≡ false) (keys_in rows)
  keys_apart k [] all = tt
  keys_apart k (row ∷ rows) all = (apart_keys k (key_of row) all.0, keys_apart k rows all.1)

  pub distinct_keys_in : (rows : List (String Y × Entry)) → IsDistinct (eq_by_cmp text_cmp) (texts_in rows) → IsDistinct (eq_by_cmp key_cmp) (keys_in rows)
  unfolding IsDistinct
  distinct_keys_in [] apart = tt
  distinct_keys_in (row ∷ rows) apart = (keys_apart (key_of row) rows apart.0, distinct_keys_in rows apart.1)

  -- where no member has the id, none has a key with it
  pub key_absent : (k : Key) (rows : List (String Y × Entry)) → list_any (eq_by_cmp text_cmp k.1) (texts_in rows) ≡ false → list_any (eq_by_cmp key_cmp k) (keys_in rows) ≡ false
  key_absent k [] none = refl
  key_absent k (row ∷ rows) none =
      let parts = none_of (eq_by_cmp text_cmp k.1 (string_bytes row.0)) (list_any (eq_by_cmp text_cmp k.1) (texts_in rows)) none in
      (λ i. apart_keys k (key_of row) parts.0 i || key_absent k rows parts.1 i)

  -- the key at the place of a row
  pub key_found : (rows : List (String Y × Entry)) (place : ℕ) (row : String Y × Entry) → slice_get rows place ≡ Some row → key_at no_key (keys_in rows) place ≡ key_of row
  key_found [] place row is = absurd (not_none row is)
  key_found (r ∷ rows) zero row is = ap key_of (some_is r row is)
  key_found (r ∷ rows) (suc place) row is = key_found rows place row is

  pub length-keys_in : (rows : List (String Y × Entry)) → length (keys_in rows) ≡ length rows
  length-keys_in rows = length-map rows key_of

  -- one more key, where a row comes last
  pub keys_behind : (rows after : List (String Y × Entry)) (row : String Y × Entry) → after ≡ rows ++ row ∷ [] → keys_in after ≡ keys_in rows ++ key_of row ∷ []
  keys_behind rows after row is = ap keys_in is ∙ map-append key_of rows (row ∷ [])

  -- a row goes, and the last one comes to its place
  pub keys_fewer : (rows after : List (String Y × Entry)) (p : ℕ) (row : String Y × Entry) → 0 < length rows → after ≡ swap_remove rows p row → keys_in after ≡ swap_remove (keys_in rows) p (key_of row)
  keys_fewer rows after p row some is = ap keys_in is ∙ map-swap_remove key_of rows p row some

  text_of_key : (rows : List (String Y × Entry)) (i : ℕ) → text_at (texts_in rows) i ≡ (key_at no_key (keys_in rows) i).1
  text_of_key [] i = refl
  text_of_key (row ∷ rows) zero = refl
  text_of_key (row ∷ rows) (suc i) = text_of_key rows i

  -- an id is at one place alone
  pub one_id : (rows : List (String Y × Entry)) → IsDistinct (eq_by_cmp text_cmp) (texts_in rows) → (i j : ℕ) → i < length (keys_in rows) → j < length (keys_in rows)
      → (key_at no_key (keys_in rows) i).1 ≡ (key_at no_key (keys_in rows) j).1 → i ≡ j
  one_id rows distinct i j in_i in_j same =
      let keys_long = length-keys_in rows in
      let texts_long = length-texts_in rows in
      same_place text_cmp text_cmp_total text_cmp-IsAntisymmetric [] (texts_in rows) distinct i j (omega (arith, keys_long, texts_long, in_i)) (omega (arith, keys_long, texts_long, in_j))
      (text_of_key rows i ∙ same ∙ sym (text_of_key rows j))

  -- ---- a member's entry becomes another one

  pub keys_rewritten : (m : Text) (rows : List (String Y × Entry)) (w : Entry) → keys_in (set_value (λ k. bytes_eq m (string_bytes k)) rows w) ≡ rekeyed m w.kept.instance (keys_in rows)
  keys_rewritten m [] w = refl
  keys_rewritten m (row ∷ rows) w =
      elim (bytes_eq m (string_bytes row.0)) as (λ b. keys_in (cond b ((row.0, w) ∷ rows) (row ∷ set_value (λ k. bytes_eq m (string_bytes k)) rows w)) ≡ cond b ((w.kept.instance, string_bytes row.0) ∷ keys_in rows) (key_of row ∷ rekeyed m w.kept.instance (keys_in rows))) [
        | true ↦ refl
        | false ↦ ap (λ l. key_of row ∷ l) (keys_rewritten m rows w)
      ]

  -- its instance stays
  pub keys_stay : (test : String Y → Bool) (rows : List (String Y × Entry)) (e w : Entry) → lookup test rows ≡ Some e → w.kept.instance ≡ e.kept.instance → keys_in (set_value test rows w) ≡ keys_in rows
  keys_stay test [] e w is same = refl
  keys_stay test (row ∷ rows) e w is same = by (test row.0) is (λ later. keys_stay test rows e w later same)
    where
      by : (b : Bool) → cond b (Some row.1) (lookup test rows) ≡ Some e → (lookup test rows ≡ Some e → keys_in (set_value test rows w) ≡ keys_in rows)
          → keys_in (cond b ((row.0, w) ∷ rows) (row ∷ set_value test rows w)) ≡ key_of row ∷ keys_in rows
      by true is _ = λ i. ((same ∙ ap (λ (e : Entry). e.kept.instance) (sym (some_is row.1 e is))) i, string_bytes row.0) ∷ keys_in rows
      by false is later = ap (λ l. key_of row ∷ l) (later is)

  -- the first key with the id is that at its place
  pub rekeyed_set : (m : Text) (instance : Option Text) (rows : List (String Y × Entry)) (p : ℕ) (d : String Y) → p < length rows → bytes_eq m (string_bytes (get_or (keys_of rows) p d)) ≡ true
      → ((k : ℕ) → k < p → bytes_eq m (string_bytes (get_or (keys_of rows) k d)) ≡ false) → rekeyed m instance (keys_in rows) ≡ set (keys_in rows) p (instance, m)
  rekeyed_set m instance [] p d inside here before = absurd (omega (arith, inside))
  rekeyed_set m instance (row ∷ rows) zero d inside here before =
      ap (λ b. cond b ((instance, string_bytes row.0) ∷ keys_in rows) (key_of row ∷ rekeyed m instance (keys_in rows))) here
      ∙ (λ i. (instance, sym ((bytes_eq-Decides m (string_bytes row.0)).0 here) i) ∷ keys_in rows)
  rekeyed_set m instance (row ∷ rows) (suc p) d inside here before =
      ap (λ b. cond b ((instance, string_bytes row.0) ∷ keys_in rows) (key_of row ∷ rekeyed m instance (keys_in rows))) (before 0 (omega arith))
      ∙ ap (λ l. key_of row ∷ l) (rekeyed_set m instance rows p d (omega (arith, inside)) here (λ k below. before (suc k) (omega (arith, below))))

  -- and it is the id's
  pub id_of_key : (rows : List (String Y × Entry)) (p : ℕ) (d : String Y) → p < length rows → (key_at no_key (keys_in rows) p).1 ≡ string_bytes (get_or (keys_of rows) p d)
  id_of_key [] p d inside = absurd (omega (arith, inside))
  id_of_key (row ∷ rows) zero d inside = refl
  id_of_key (row ∷ rows) (suc p) d inside = id_of_key rows p d (omega (arith, inside))
