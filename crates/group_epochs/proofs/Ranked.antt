-- The rows in the order of ids: they have the records of all rows, and are the records' entries.
use Rattle.std.proofs.Common.{◌≡◌, ◌≢◌, ℕ, zero, suc, ◌<◌, ◌≤◌, Bool, true, false, cond, ◌&&◌, Option, Some, None, List, [], ◌∷◌, length, map, get_or, slice_get, String, T, refl, sym, ap, subst, ◌∙◌, true≢false, arith, inl, inr, Ok}
use Rattle.std.specs.Prelude.{string_bytes, option_map, option_and_then, MatchOption}
use Rattle.std.specs.List.{AllByRecursion, IsDistinct}
use Rattle.std.specs.List.Sorted.{IsStrictlySortedBy}
use Rattle.std.specs.Map.{keys_of, lookup}
use Rattle.std.specs.Ordering.{eq_by_cmp, is_lt, ordering_reverse}
use Rattle.std.specs.declared.cmp.Ordering.TheVariants.{Less, Equal, Greater}
use Rattle.std.specs.Str.{bytes_eq}
use Rattle.std.specs.String.{string_eq, string_eq_equiv}
use Rattle.std.specs.FinMap as finite
use Rattle.std.specs.FinMap.{find, is_sorted}
use Rattle.std.specs.FinMap.Entries.{below_all}
use Rattle.std.proofs.lemmas.Bool.{cases_lt, cases_order}
use Rattle.std.proofs.lemmas.Map.Entries.{lookup_from_place, place_from_lookup}
use Rattle.std.proofs.lemmas.Map.Keys.{Less-from_sorted}
use Rattle.std.proofs.lemmas.Slice.Eq.{bytes_eq-Decides}
use Rattle.std.specs.Cmp.{tied_itself}
use Rattle.std.proofs.Math.ListN.{length-map}
use Rattle.std.proofs.lemmas.Option.{slice_get_within, get_or_from_slice_get, slice_get-get_or}
use Rattle.group_types.proofs.Entries.{entries_found}
use Rattle.group_types.specs.Text.{Text, text_cmp}
use Rattle.group_types.specs.Group.{Record}
use Rattle.group_types.specs.Tick.{NoneIsDue, is_due}
use Rattle.group_types.proofs.Lookups.{not_none, same_text, some_is}
use Rattle.group_types.proofs.Orders.{text_cmp_total, text_cmp-IsAntisymmetric}
use Rattle.group_epochs.specs.Table.{IsFirstRank, IsIdOrder, IsMemberOrder, IsRank, NoneIsDueBefore, is_due_at, key_cmp, keys_in, no_key, is_row_due, member_at, records_in, rows_at, text_at, texts_at, texts_in, with_row}
use Rattle.group_epochs.specs.declared.entry.Entry.{Entry}
use Rattle.group_epochs.proofs.Keys.{distinct_keys_in, key_cmp_total, key_cmp-IsAntisymmetric, length-keys_in}
use Rattle.group_types.proofs.Ordered.{AreApart, place_listed, places_apart, same_place, slice_get_of_map}
use Rattle.group_epochs.proofs.Others.{distinct_in, pair}
use Rattle.group_epochs.proofs.Rows.{get-records_in, kept_in, length-texts_in, text_found, tied_bytes}

both_hold : (a b : Bool) → T a → T b → T (a && b)
both_hold true b p q = q
both_hold false b p q = p

pub row_there : {X : Type 0} (xs : List X) (i : ℕ) → i < length xs → (x : X) × (slice_get xs i ≡ Some x)
row_there [] i within = absurd (omega (arith, within))
row_there (x ∷ xs) zero within = (x, refl)
row_there (x ∷ xs) (suc i) within = row_there xs i (omega (arith, within))

module _ {Y : Type 0} where
  -- the row at a rank is that at its place
  pub row_at : (rows : List (String Y × Entry)) (places : List ℕ) (r : ℕ) → AllByRecursion (λ k. k < length rows) places
      → slice_get (rows_at rows places) r ≡ option_and_then (slice_get rows) (slice_get places r)
  row_at rows [] r within = refl
  row_at rows (k ∷ ks) r within =
      let row = row_there rows k within.0 in
      ap (λ o. slice_get (with_row o (rows_at rows ks)) r) row.1 ∙ by r row (λ s. row_at rows ks s within.1)
    where
      by : (r : ℕ) (row : (x : String Y × Entry) × (slice_get rows k ≡ Some x)) → ((s : ℕ) → slice_get (rows_at rows ks) s ≡ option_and_then (slice_get rows) (slice_get ks s))
          → slice_get (row.0 ∷ rows_at rows ks) r ≡ option_and_then (slice_get rows) (slice_get (k ∷ ks) r)
      by zero row rest = sym row.1
      by (suc s) row rest = rest s

  pub texts_of_rows : (rows : List (String Y × Entry)) (places : List ℕ) → AllByRecursion (λ k. k < length rows) places → texts_in (rows_at rows places) ≡ texts_at (texts_in rows) places
  texts_of_rows rows [] within = refl
  texts_of_rows rows (k ∷ ks) within =
      let row = row_there rows k within.0 in
      ap (λ o. texts_in (with_row o (rows_at rows ks))) row.1
      ∙ (λ i. sym (text_found rows k row.0 row.1) i ∷ texts_of_rows rows ks within.1 i)

  keys_apart : (k : String Y) (ks : List (String Y)) → AllByRecursion (λ t. eq_by_cmp text_cmp (string_bytes k) t ≡ false) (map string_bytes ks) → AllByRecursion (λ l. string_eq k l ≡ false) ks
  keys_apart k [] all = tt
  keys_apart k (l ∷ ls) all = (sym (tied_bytes (string_bytes k) (string_bytes l)) ∙ all.0, keys_apart k ls all.1)

  distinct_keys : (ks : List (String Y)) → IsDistinct (eq_by_cmp text_cmp) (map string_bytes ks) → IsDistinct string_eq ks
  unfolding IsDistinct
  distinct_keys [] apart = tt
  distinct_keys (k ∷ ks) apart = (keys_apart k ks apart.0, distinct_keys ks apart.1)

  is_sorted_below : (t : Text) (rows : List (String Y × Entry)) → AllByRecursion (λ u. text_cmp t u ≡ Less) (texts_in rows) → T (below_all text_cmp t (map pair rows))
  is_sorted_below t [] all = tt
  is_sorted_below t (row ∷ rows) all = both_hold _ _ (subst (λ o. T (is_lt o)) (sym all.0) tt) (is_sorted_below t rows all.1)

  is_sorted_rows : (rows : List (String Y × Entry)) → IsStrictlySortedBy text_cmp (texts_in rows) → T (is_sorted text_cmp (map pair rows))
  unfolding IsStrictlySortedBy
  is_sorted_rows [] rise = tt
  is_sorted_rows (row ∷ rows) rise = both_hold _ _ (is_sorted_below (string_bytes row.0) rows rise.0) (is_sorted_rows rows rise.1)

nothing_past : {X : Type 0} (xs : List X) (i : ℕ) → length xs ≤ i → slice_get xs i ≡ None
nothing_past [] i past = refl
nothing_past (x ∷ xs) zero past = absurd (omega (arith, past))
nothing_past (x ∷ xs) (suc i) past = nothing_past xs i (omega (arith, past))

find_place : (es : List (Text × Record)) (q : Text) (r : Record) → find text_cmp q es ≡ Some r → (j : ℕ) × (slice_get es j ≡ Some (q, r))
find_place [] q r is = absurd (not_none r is)
find_place (e ∷ es) q r is = by (eq_by_cmp text_cmp q e.0) refl is (λ later. find_place es q r later)
  where
    by : (b : Bool) → eq_by_cmp text_cmp q e.0 ≡ b → cond b (Some e.1) (find text_cmp q es) ≡ Some r → (find text_cmp q es ≡ Some r → (j : ℕ) × (slice_get es j ≡ Some (q, r)))
        → (j : ℕ) × (slice_get (e ∷ es) j ≡ Some (q, r))
    by true so is later = (0, λ i. Some (sym (same_text q e.0 so) i, some_is e.1 r is i))
    by false _ is later = let rest = later is in (suc rest.0, rest.1)

pub entry_there : (es : List (Text × Record)) (P : Text × Record → Type 0) (j : ℕ) (m : Text × Record) → AllByRecursion P es → slice_get es j ≡ Some m → P m
entry_there [] P j m all is = absurd (not_none m is)
entry_there (e ∷ es) P zero m all is = subst P (some_is e m is) all.0
entry_there (e ∷ es) P (suc j) m all is = entry_there es P j m all.1 is

-- ---- the rows at the places of all rows

-- the places of all rows, each once
pub record AreAll {Y : Type 0} (rows : List (String Y × Entry)) (places : List ℕ) : Type 0 where
  pub within : AllByRecursion (λ k. k < length rows) places
  pub apart : AreApart places
  pub listed : (j : ℕ) → j < length rows → (r : ℕ) × (slice_get places r ≡ Some j)

module _ {Y : Type 0} (rows : List (String Y × Entry)) (distinct : IsDistinct string_eq (keys_of rows)) where
  -- two places of one text are one
  pub one_place : (i j : ℕ) (a b : String Y × Entry) → slice_get rows i ≡ Some a → slice_get rows j ≡ Some b → bytes_eq (string_bytes a.0) (string_bytes b.0) ≡ true → i ≡ j
  one_place i j a b is_a is_b same =
      let long = length-texts_in rows in
      let in_i = slice_get_within rows i a is_a in
      let in_j = slice_get_within rows j b is_b in
      same_place text_cmp text_cmp_total text_cmp-IsAntisymmetric [] (texts_in rows) (distinct_in rows distinct) i j (omega (arith, long, in_i)) (omega (arith, long, in_j))
      (text_found rows i a is_a ∙ (bytes_eq-Decides (string_bytes a.0) (string_bytes b.0)).0 same ∙ sym (text_found rows j b is_b))

  keys_differ : (i j : ℕ) (a b : String Y × Entry) → slice_get rows i ≡ Some a → slice_get rows j ≡ Some b → i ≢ j → string_eq a.0 b.0 ≡ false
  keys_differ i j a b is_a is_b other =
      elim (string_eq a.0 b.0) as (λ t. string_eq a.0 b.0 ≡ t → t ≡ false) [
        | true ↦ λ same. absurd (other (one_place i j a b is_a is_b same))
        | false ↦ λ _. refl
      ] refl

  differ_behind : (p : ℕ) (row : String Y × Entry) → slice_get rows p ≡ Some row → (ps : List ℕ) → AllByRecursion (λ k. k < length rows) ps → AllByRecursion (λ k. p ≢ k) ps
      → AllByRecursion (λ l. string_eq row.0 l ≡ false) (keys_of (rows_at rows ps))
  differ_behind p row is [] within apart = tt
  differ_behind p row is (k ∷ ks) within apart =
      let other = row_there rows k within.0 in
      subst (λ o. AllByRecursion (λ l. string_eq row.0 l ≡ false) (keys_of (with_row o (rows_at rows ks)))) (sym other.1)
      (keys_differ p k row other.0 is other.1 apart.0, differ_behind p row is ks within.1 apart.1)

  distinct_at : (ps : List ℕ) → AllByRecursion (λ k. k < length rows) ps → AreApart ps → IsDistinct string_eq (keys_of (rows_at rows ps))
  unfolding IsDistinct
  distinct_at [] within apart = tt
  distinct_at (p ∷ ps) within apart =
      let row = row_there rows p within.0 in
      subst (λ o. IsDistinct string_eq (keys_of (with_row o (rows_at rows ps)))) (sym row.1) (differ_behind p row.0 row.1 ps within.1 apart.0, distinct_at ps within.1 apart.1)

module _ {Y : Type 0} (rows : List (String Y × Entry)) (places : List ℕ) (all : AreAll rows places) (distinct : IsDistinct string_eq (keys_of rows)) where
  pub ordered_distinct : IsDistinct string_eq (keys_of (rows_at rows places))
  ordered_distinct = distinct_at rows distinct places all.within all.apart

  at_its_place : (o : Option ℕ) (row : String Y × Entry) → option_and_then (slice_get rows) o ≡ Some row → (p : ℕ) × (slice_get rows p ≡ Some row)
  at_its_place None row is = absurd (not_none row is)
  at_its_place (Some p) row is = (p, is)

  found_alike : (q : Text) (e : Entry) → lookup (λ k. bytes_eq q (string_bytes k)) (rows_at rows places) ≡ Some e → lookup (λ k. bytes_eq q (string_bytes k)) rows ≡ Some e
  found_alike q e is =
      let at = place_from_lookup (λ (k : String Y). bytes_eq q (string_bytes k)) (rows_at rows places) e is in
      let here = at_its_place (slice_get places at.0) (at.1, e) (sym (row_at rows places at.0 all.within) ∙ at.2) in
      let found = lookup_from_place string_eq_equiv rows here.0 at.1 e distinct here.1 in
      ap (λ t. lookup (λ k. bytes_eq t (string_bytes k)) rows) ((bytes_eq-Decides q (string_bytes at.1)).0 at.3) ∙ found

  found_back : (q : Text) (e : Entry) → lookup (λ k. bytes_eq q (string_bytes k)) rows ≡ Some e → lookup (λ k. bytes_eq q (string_bytes k)) (rows_at rows places) ≡ Some e
  found_back q e is =
      let at = place_from_lookup (λ (k : String Y). bytes_eq q (string_bytes k)) rows e is in
      let rank = all.listed at.0 (slice_get_within rows at.0 (at.1, e) at.2) in
      let here = row_at rows places rank.0 all.within ∙ ap (option_and_then (slice_get rows)) rank.1 ∙ at.2 in
      ap (λ t. lookup (λ k. bytes_eq t (string_bytes k)) (rows_at rows places)) ((bytes_eq-Decides q (string_bytes at.1)).0 at.3)
      ∙ lookup_from_place string_eq_equiv (rows_at rows places) rank.0 at.1 e ordered_distinct here

  pub lookup_alike : (q : Text) → lookup (λ k. bytes_eq q (string_bytes k)) (rows_at rows places) ≡ lookup (λ k. bytes_eq q (string_bytes k)) rows
  lookup_alike q = by (lookup (λ k. bytes_eq q (string_bytes k)) (rows_at rows places)) refl (lookup (λ k. bytes_eq q (string_bytes k)) rows) refl
    where
      by : (o : Option Entry) → lookup (λ k. bytes_eq q (string_bytes k)) (rows_at rows places) ≡ o → (u : Option Entry) → lookup (λ k. bytes_eq q (string_bytes k)) rows ≡ u → o ≡ u
      by (Some e) is u other = sym (found_alike q e is) ∙ other
      by None is None other = refl
      by None is (Some e) other = absurd (not_none e (sym is ∙ found_back q e other))

  pub ordered_named : ((m : Text) (e : Entry) → lookup (λ k. bytes_eq m (string_bytes k)) rows ≡ Some e → e.id ≡ m)
      → (m : Text) (e : Entry) → lookup (λ k. bytes_eq m (string_bytes k)) (rows_at rows places) ≡ Some e → e.id ≡ m
  ordered_named named m e is = named m e (sym (lookup_alike m) ∙ is)

  pub records_alike : records_in (rows_at rows places) ≡ records_in rows
  records_alike =
      finite.same_map text_cmp_total text_cmp-IsAntisymmetric (records_in (rows_at rows places)) (records_in rows)
      (λ q. get-records_in (rows_at rows places) q ∙ ap kept_in (lookup_alike q) ∙ sym (get-records_in rows q))

-- each place is in the order of ids, and in member order

module _ {Y : Type 0} (rows : List (String Y × Entry)) (places : List ℕ) (distinct : IsDistinct string_eq (keys_of rows)) where
  pub all_by_id : IsIdOrder (texts_in rows) places → AreAll rows places
  all_by_id order =
      let long = length-texts_in rows in
      record {
        within = subst (λ n. AllByRecursion (λ k. k < n) places) long order.within;
        apart = places_apart text_cmp text_cmp_total text_cmp-IsAntisymmetric [] (texts_in rows) places order.rise;
        listed = λ j inside. place_listed text_cmp text_cmp_total text_cmp-IsAntisymmetric [] (texts_in rows) places order (distinct_in rows distinct) j (omega (arith, long, inside));
      }

  pub all_in_member_order : IsMemberOrder rows places → AreAll rows places
  all_in_member_order order =
      let long = length-keys_in rows in
      record {
        within = subst (λ n. AllByRecursion (λ k. k < n) places) long order.within;
        apart = places_apart key_cmp key_cmp_total key_cmp-IsAntisymmetric no_key (keys_in rows) places order.rise;
        listed = λ j inside. place_listed key_cmp key_cmp_total key_cmp-IsAntisymmetric no_key (keys_in rows) places order (distinct_keys_in rows (distinct_in rows distinct)) j (omega (arith, long, inside));
      }

module _ {Y : Type 0} (rows : List (String Y × Entry)) (places : List ℕ) (order : IsIdOrder (texts_in rows) places) (distinct : IsDistinct string_eq (keys_of rows)) where
  within : AllByRecursion (λ k. k < length rows) places
  within = subst (λ n. AllByRecursion (λ k. k < n) places) (length-texts_in rows) order.within

  rise : IsStrictlySortedBy text_cmp (texts_in (rows_at rows places))
  rise = subst (IsStrictlySortedBy text_cmp) (sym (texts_of_rows rows places within)) order.rise

  pub entries_are : finite.entries (records_in rows) ≡ map pair (rows_at rows places)
  entries_are =
      let es = map pair (rows_at rows places) in
      let sorted = is_sorted_rows (rows_at rows places) rise in
      let same : finite.from_sorted es ≡ records_in rows =
      finite.same_map text_cmp_total text_cmp-IsAntisymmetric (finite.from_sorted es) (records_in rows)
      (λ q. finite.get-from_sorted text_cmp es q sorted ∙ sym (finite.get-from_entries text_cmp_total es q) ∙ ap (λ s. finite.get s q) (records_alike rows places (all_by_id rows places distinct order) distinct)) in
      ap finite.entries (sym same) ∙ finite.entries-from_sorted text_cmp es sorted

  pub member_at_is : (r : ℕ) → member_at (records_in rows) r ≡ option_map pair (option_and_then (slice_get rows) (slice_get places r))
  member_at_is r = ap (λ es. slice_get es r) entries_are ∙ slice_get_of_map pair (rows_at rows places) r ∙ ap (option_map pair) (row_at rows places r within)

  text_of_member : (r : ℕ) (m : Text × Record) → member_at (records_in rows) r ≡ Some m → (r < length (texts_in (rows_at rows places))) × (text_at (texts_in (rows_at rows places)) r ≡ m.0)
  text_of_member r m is =
      let row = ap (λ es. slice_get es r) (sym entries_are) ∙ is in
      by (slice_get (rows_at rows places) r) refl (sym (slice_get_of_map pair (rows_at rows places) r) ∙ row)
    where
      by : (o : Option (String Y × Entry)) → slice_get (rows_at rows places) r ≡ o → option_map pair o ≡ Some m → (r < length (texts_in (rows_at rows places))) × (text_at (texts_in (rows_at rows places)) r ≡ m.0)
      by None _ is = absurd (not_none m is)
      by (Some row) at is =
          let long = length-texts_in (rows_at rows places) in
          let below = slice_get_within (rows_at rows places) r row at in
          (omega (arith, long, below), text_found (rows_at rows places) r row at ∙ ap (λ (m : Text × Record). m.0) (some_is (pair row) m is))

  -- the rank of a member, in the order of ids
  pub rank_of_member : (r : ℕ) (m : Text × Record) → member_at (records_in rows) r ≡ Some m → IsRank (texts_in rows) places m.0 (Ok r)
  rank_of_member r m is =
      let here = text_of_member r m is in
      subst (λ texts. (r < length places) × (slice_get texts r ≡ Some m.0)) (texts_of_rows rows places within) (
        subst (λ n. r < n) (ap length (texts_of_rows rows places within) ∙ length-map places (text_at (texts_in rows))) here.0,
        slice_get-get_or (texts_in (rows_at rows places)) r [] here.0 ∙ ap Some here.1,
      )

  -- ---- who is due

  module _ (clock : ℕ) where
    due_of_row : (o : Option (String Y × Entry)) (m : Text × Record) → option_map pair o ≡ Some m → is_due clock m.1 ≡ is_row_due o clock
    due_of_row None m is = absurd (not_none m is)
    due_of_row (Some row) m is = ap (λ (m : Text × Record). is_due clock m.1) (sym (some_is (pair row) m is))

    due_of_place : (o : Option ℕ) (r : ℕ) (m : Text × Record) → slice_get places r ≡ o → option_map pair (option_and_then (slice_get rows) o) ≡ Some m
        → (r < length places) × (is_due clock m.1 ≡ is_due_at rows places clock r)
    due_of_place None r m at is = absurd (not_none m is)
    due_of_place (Some p) r m at is =
        (slice_get_within places r p at, due_of_row (slice_get rows p) m is ∙ ap (λ k. is_row_due (slice_get rows k) clock) (sym (get_or_from_slice_get places r p 0 at)))

    due_of_member : (r : ℕ) (m : Text × Record) → member_at (records_in rows) r ≡ Some m → (r < length places) × (is_due clock m.1 ≡ is_due_at rows places clock r)
    due_of_member r m is = due_of_place (slice_get places r) r m refl (sym (member_at_is r) ∙ is)

    module _ (from : ℕ) (before : NoneIsDueBefore (records_in rows) clock from) where
      none_up_to : (r : ℕ) → ((k : ℕ) → from ≤ k → k < r → is_due_at rows places clock k ≡ false) → NoneIsDueBefore (records_in rows) clock r
      none_up_to r none k m below is =
          elim (cases_lt k from) [
            | inl early ↦ before k m early is
            | inr later ↦ (due_of_member k m is).1 ∙ none k later below
          ]

      pub none_due : ((k : ℕ) → from ≤ k → k < length places → is_due_at rows places clock k ≡ false) → NoneIsDue (records_in rows) clock
      none_due none m r is =
          let at = find_place (finite.entries (records_in rows)) m r (sym (finite.get-entries (records_in rows) m) ∙ is) in
          none_up_to (length places) none at.0 (m, r) (due_of_member at.0 (m, r) at.1).0 at.1

      module _ (r : ℕ) (here : r < length places) (due : is_due_at rows places clock r ≡ true) (none : (k : ℕ) → from ≤ k → k < r → is_due_at rows places clock k ≡ false) where
        the_member : (m : Text × Record) × (member_at (records_in rows) r ≡ Some m)
        the_member =
            let row = row_there rows (get_or places r 0) (at_all places r within here) in
            (pair row.0, member_at_is r ∙ ap (λ o. option_map pair (option_and_then (slice_get rows) o)) (slice_get-get_or places r 0 here) ∙ ap (option_map pair) row.1)
          where
            at_all : (ps : List ℕ) (i : ℕ) → AllByRecursion (λ k. k < length rows) ps → i < length ps → get_or ps i 0 < length rows
            at_all [] i all within = absurd (omega (arith, within))
            at_all (p ∷ ps) zero all within = all.0
            at_all (p ∷ ps) (suc i) all within = at_all ps i all.1 (omega (arith, within))

        is_first : (n : Text) (s : Record) → finite.get (records_in rows) n ≡ Some s → is_due clock s ≡ true → text_cmp n the_member.0.0 ≡ Less → ⊥
        is_first n s is so less =
            let at = find_place (finite.entries (records_in rows)) n s (sym (finite.get-entries (records_in rows) n) ∙ is) in
            let mine = text_of_member r the_member.0 the_member.1 in
            let other = text_of_member at.0 (n, s) at.1 in
            elim (cases_order at.0 r) [
              | inl same ↦
                  let tie : text_cmp n the_member.0.0 ≡ Equal = (λ i. text_cmp (sym other.1 i) the_member.0.0) ∙ ap (λ k. text_cmp (text_at (texts_in (rows_at rows places)) k) the_member.0.0) same ∙ ap (λ t. text_cmp t the_member.0.0) mine.1 ∙ tied_itself text_cmp_total the_member.0.0 in
                  cc
              | inr apart ↦ elim apart [
                | inl below ↦ true≢false (sym so ∙ none_up_to r none at.0 (n, s) below at.1)
                | inr above ↦
                    let after : text_cmp the_member.0.0 n ≡ Less =
                    (λ i. text_cmp (sym mine.1 i) (sym other.1 i)) ∙ Less-from_sorted text_cmp (texts_in (rows_at rows places)) r at.0 [] rise above other.0 in
                    let turned : text_cmp n the_member.0.0 ≡ Greater = text_cmp_total.antisymm n the_member.0.0 ∙ ap ordering_reverse after in
                    cc
              ]
            ]

        pub first_rank : IsFirstRank (records_in rows) clock r
        first_rank =
            record {
              id = the_member.0.0;
              kept = the_member.0.1;
              there = the_member.1;
              first = record {
                is_kept = entry_there (finite.entries (records_in rows)) (λ e. finite.get (records_in rows) e.0 ≡ Some e.1) r the_member.0 (entries_found (records_in rows)) the_member.1;
                due = (due_of_member r the_member.0 the_member.1).1 ∙ due;
                first = is_first;
              };
              before = none_up_to r none;
            }

      pub first_due_is : (o : Option ℕ)
          → MatchOption o ((k : ℕ) → from ≤ k → k < length places → is_due_at rows places clock k ≡ false)
          (λ r. (r < length places) × (from ≤ r) × (is_due_at rows places clock r ≡ true) × ((k : ℕ) → from ≤ k → k < r → is_due_at rows places clock k ≡ false))
          → MatchOption o (NoneIsDue (records_in rows) clock) (λ r. IsFirstRank (records_in rows) clock r)
      first_due_is None none = none_due none
      first_due_is (Some r) found = first_rank r found.0 found.2 found.3

  -- ---- who is at a rank

  pub no_member_at : (r : ℕ) → length places ≤ r → None ≡ member_at (records_in rows) r
  no_member_at r past = sym (member_at_is r ∙ ap (λ o. option_map pair (option_and_then (slice_get rows) o)) (nothing_past places r past))

  pub is_member_at : (r p : ℕ) (k : String Y) (e : Entry) → slice_get places r ≡ Some p → slice_get rows p ≡ Some (k, e)
      → ((m : Text) (e : Entry) → lookup (λ k. bytes_eq m (string_bytes k)) rows ≡ Some e → e.id ≡ m) → Some (e.id, e.kept) ≡ member_at (records_in rows) r
  is_member_at r p k e at is named =
      ap (λ m. Some (m, e.kept)) (named (string_bytes k) e (lookup_from_place string_eq_equiv rows p k e distinct is))
      ∙ sym (member_at_is r ∙ ap (λ o. option_map pair (option_and_then (slice_get rows) o)) at ∙ ap (option_map pair) is)
