-- The rows of others than a member: what their records are beside it, in which order the records stand, and who is apart.
use Rattle.std.proofs.Common.{◌≡◌, ◌+◌, Bool, true, false, cond, not, Some, None, is_some, List, [], ◌∷◌, length, map, get_or, String, refl, sym, ap, subst, ◌∙◌, true≢false, inl, inr, arith}
use Rattle.std.specs.Prelude.{string_bytes, IsPermutation}
use Rattle.std.specs.List.{AllByRecursion, IsDistinct}
use Rattle.std.specs.Map.{keys_of, lookup}
use Rattle.std.specs.Ordering.{eq_by_cmp, is_eq}
use Rattle.std.specs.declared.cmp.Ordering.TheVariants.{Less, Equal, Greater}
use Rattle.std.specs.Str.{bytes_eq}
use Rattle.std.specs.String.{string_eq}
use Rattle.std.specs.FinMap as finite
use Rattle.std.specs.FinMap.{find, put}
use Rattle.std.specs.FinMap.Entries.{by_order}
use Rattle.std.proofs.lemmas.Bool.{cases_order}
use Rattle.std.proofs.lemmas.List.{get_or-map, nil_from_length}
use Rattle.std.proofs.Math.ListN.{length-map}
use Rattle.std.proofs.lemmas.List.Sorted.{IsPermutation-cons, IsPermutation-map, IsPermutation-middle, IsPermutation-refl, IsPermutation-sym, IsPermutation-trans}
use Rattle.std.proofs.lemmas.Map.{NonePasses, lookup-none}
use Rattle.std.proofs.lemmas.Map.Entries.{lookup-filter-keys}
use Rattle.std.proofs.lemmas.Map.Keys.{IsDistinct-head, IsDistinct-tail, apart_from_distinct}
use Rattle.std.proofs.lemmas.Map.Made.{IsDistinct-keys_filter}
use Rattle.std.proofs.lemmas.Option.{slice_get_within, get_or_from_slice_get}
use Rattle.std.proofs.lemmas.Slice.Eq.{bytes_eq-Decides}
use Rattle.group_types.specs.Text.{Text, text_cmp}
use Rattle.group_types.specs.Assignors.{IdsAreApart, Subscriber}
use Rattle.group_types.specs.Group.{Record, Records}
use Rattle.group_types.specs.Renewal.{subscriber_of}
use Rattle.group_types.proofs.Lookups.{Tie, ties, differs, tie, not_none, text_ties}
use Rattle.group_types.proofs.Orders.{text_cmp_total}
use Rattle.group_epochs.specs.Table.{others, records_in, seen_of, texts_in}
use Rattle.group_epochs.specs.declared.entry.Entry.{Entry}
use Rattle.group_epochs.proofs.Rows.{get-records_in, inserted, kept_in, removed, tied_bytes, tied_bytes_turned}

same_bytes : (m : Text) → bytes_eq m m ≡ true
same_bytes m = (bytes_eq-Decides m m).1 refl

-- ---- the entries of a finite map

-- to put a new entry in is to put it somewhere
put_moves : (k : Text) (v : Record) (es : List (Text × Record)) → find text_cmp k es ≡ None → IsPermutation ((k, v) ∷ es) (put text_cmp k v es)
put_moves k v [] none = IsPermutation-refl ((k, v) ∷ [])
put_moves k v (e ∷ es) none =
    elim (text_cmp k e.0) as (λ r. text_cmp k e.0 ≡ r → IsPermutation ((k, v) ∷ e ∷ es) (by_order r ((k, v) ∷ e ∷ es) ((e.0, v) ∷ es) (e ∷ put text_cmp k v es))) [
      | Less ↦ λ _. IsPermutation-refl ((k, v) ∷ e ∷ es)
      | Equal ↦ λ is. absurd (not_none e.1 (sym none ∙ ap (λ r. cond (is_eq r) (Some e.1) (find text_cmp k es)) is))
      | Greater ↦ λ is.
          IsPermutation-trans ((k, v) ∷ e ∷ es) (e ∷ (k, v) ∷ es) (e ∷ put text_cmp k v es)
          (IsPermutation-sym (e ∷ (k, v) ∷ es) ((k, v) ∷ e ∷ es) (IsPermutation-middle (e ∷ []) (k, v) es))
          (IsPermutation-cons e ((k, v) ∷ es) (put text_cmp k v es) (put_moves k v es (sym (ap (λ r. cond (is_eq r) (Some e.1) (find text_cmp k es)) is) ∙ none)))
    ] refl

pub insert_moves : (s : Records) (k : Text) (v : Record) → finite.get s k ≡ None → IsPermutation ((k, v) ∷ finite.entries s) (finite.entries (finite.insert s k v))
insert_moves s k v none =
    subst (IsPermutation ((k, v) ∷ finite.entries s)) (sym (finite.entries-insert text_cmp_total s k v))
    (put_moves k v (finite.entries s) (sym (finite.get-entries s k) ∙ none))

pub no_entries : finite.entries (finite.empty {X = Record} {R = text_cmp}) ≡ []
no_entries = nil_from_length _ (sym (finite.len-entries finite.empty) ∙ finite.len-empty text_cmp Record)

turned : {A : Type 0} (b : Bool) (x y : A) → cond (not b) x y ≡ cond b y x
turned true x y = refl
turned false x y = refl

-- a record put in over the others' is one put in over all
pub insert_over : (s : Records) (id : Text) (r : Record) → finite.insert (finite.remove s id) id r ≡ finite.insert s id r
insert_over s id r =
    inserted s (finite.insert (finite.remove s id) id r) id r
    (λ q. finite.get-insert text_cmp_total (finite.remove s id) id r q
    ∙ ap (λ o. cond (eq_by_cmp text_cmp q id) (Some r) o) (finite.get-remove text_cmp_total s id q)
    ∙ elim (eq_by_cmp text_cmp q id) as (λ b. cond b (Some r) (cond b None (finite.get s q)) ≡ cond b (Some r) (finite.get s q)) [ true ↦ refl | false ↦ refl ])

pub apart_of_distinct : (subs : List Subscriber) → IsDistinct (eq_by_cmp text_cmp) (map (λ s. s.id) subs) → IdsAreApart subs
apart_of_distinct subs distinct = λ i j m n is_m is_n same.
    let in_i = slice_get_within subs i m is_m in
    let in_j = slice_get_within subs j n is_n in
    let long = length-map subs (λ (s : Subscriber). s.id) in
    let at_i : get_or (map (λ s. s.id) subs) i m.id ≡ m.id = get_or-map (λ (s : Subscriber). s.id) subs i m m.id in_i ∙ ap (λ (s : Subscriber). s.id) (get_or_from_slice_get subs i m m is_m) in
    let at_j : get_or (map (λ s. s.id) subs) j m.id ≡ n.id = get_or-map (λ (s : Subscriber). s.id) subs j m m.id in_j ∙ ap (λ (s : Subscriber). s.id) (get_or_from_slice_get subs j n m is_n) in
    let tied : eq_by_cmp text_cmp m.id n.id ≡ true = ap (eq_by_cmp text_cmp m.id) (sym same) ∙ text_ties m.id in
    elim (cases_order i j) [
      | inl equal ↦ equal
      | inr other ↦ elim other [
        | inl below ↦ absurd (true≢false (sym tied ∙ (λ k. eq_by_cmp text_cmp (sym at_i k) (sym at_j k)) ∙ apart_from_distinct (eq_by_cmp text_cmp) (map (λ s. s.id) subs) i j m.id distinct below (omega arith)))
        | inr above ↦ absurd (true≢false (sym (text_ties m.id) ∙ ap (λ t. eq_by_cmp text_cmp t m.id) same ∙ (λ k. eq_by_cmp text_cmp (sym at_j k) (sym at_i k)) ∙ apart_from_distinct (eq_by_cmp text_cmp) (map (λ s. s.id) subs) j i m.id distinct above (omega arith)))
      ]
    ]

module _ {Y : Type 0} where
  abbrev pub pair : String Y × Entry → Text × Record
  pair row = (string_bytes row.0, row.1.kept)

  -- ---- keys that are apart

  pub absent_later : {X : Type 0} (row : String Y × X) (rows : List (String Y × X)) → IsDistinct string_eq (keys_of (row ∷ rows)) → lookup (λ k. bytes_eq (string_bytes row.0) (string_bytes k)) rows ≡ None
  absent_later {X} row rows apart = lookup-none (string_eq row.0) rows (passes rows (IsDistinct-head string_eq row.0 (keys_of rows) apart))
    where
      passes : (rows : List (String Y × X)) → AllByRecursion (λ k. string_eq row.0 k ≡ false) (keys_of rows) → NonePasses (string_eq row.0) rows
      passes [] all = all
      passes (r ∷ rs) all = (all.0, passes rs all.1)

  no_record_later : (row : String Y × Entry) (rows : List (String Y × Entry)) → IsDistinct string_eq (keys_of (row ∷ rows)) → finite.get (records_in rows) (string_bytes row.0) ≡ None
  no_record_later row rows apart = get-records_in rows (string_bytes row.0) ∙ ap kept_in (absent_later row rows apart)

  -- as many records as rows
  pub len-records_in : (rows : List (String Y × Entry)) → IsDistinct string_eq (keys_of rows) → finite.len (records_in rows) ≡ length rows
  len-records_in [] apart = finite.len-empty text_cmp Record
  len-records_in (row ∷ rows) apart =
      let rest = len-records_in rows (IsDistinct-tail string_eq row.0 (keys_of rows) apart) in
      finite.len-insert text_cmp_total (records_in rows) (string_bytes row.0) row.1.kept
      ∙ ap (λ o. cond (is_some o) (finite.len (records_in rows)) (finite.len (records_in rows) + 1)) (no_record_later row rows apart)
      ∙ omega (arith, rest)

  -- the records stand in some order of the rows
  pub entries_move : (rows : List (String Y × Entry)) → IsDistinct string_eq (keys_of rows) → IsPermutation (map pair rows) (finite.entries (records_in rows))
  entries_move [] apart = subst (IsPermutation []) (sym no_entries) (IsPermutation-refl [])
  entries_move (row ∷ rows) apart =
      IsPermutation-trans (map pair (row ∷ rows)) (pair row ∷ finite.entries (records_in rows)) (finite.entries (records_in (row ∷ rows)))
      (IsPermutation-cons (pair row) (map pair rows) (finite.entries (records_in rows)) (entries_move rows (IsDistinct-tail string_eq row.0 (keys_of rows) apart)))
      (insert_moves (records_in rows) (string_bytes row.0) row.1.kept (no_record_later row rows apart))

  -- ---- the others

  lookup-others : (id : Text) (rows : List (String Y × Entry)) (q : Text) → lookup (λ k. bytes_eq q (string_bytes k)) (others id rows) ≡ cond (not (bytes_eq q id)) (lookup (λ k. bytes_eq q (string_bytes k)) rows) None
  lookup-others id rows q =
      lookup-filter-keys (λ k. bytes_eq q (string_bytes k)) (λ k. not (bytes_eq (string_bytes k) id)) (not (bytes_eq q id))
      (λ k passes. ap (λ t. not (bytes_eq t id)) (sym ((bytes_eq-Decides q (string_bytes k)).0 passes))) rows

  records_of_others : (id : Text) (rows : List (String Y × Entry)) → records_in (others id rows) ≡ finite.remove (records_in rows) id
  records_of_others id rows =
      removed (records_in rows) (records_in (others id rows)) id
      (λ q. get-records_in (others id rows) q
      ∙ ap kept_in (lookup-others id rows q ∙ turned (bytes_eq q id) (lookup (λ k. bytes_eq q (string_bytes k)) rows) None)
      ∙ elim (bytes_eq q id) as (λ b. kept_in (cond b None (lookup (λ k. bytes_eq q (string_bytes k)) rows)) ≡ cond b None (kept_in (lookup (λ k. bytes_eq q (string_bytes k)) rows))) [ true ↦ refl | false ↦ refl ]
      ∙ (λ i. cond (sym (tied_bytes q id) i) None (sym (get-records_in rows q) i)))

  -- the records with one for the id stand in some order of that one and the others
  pub entries_with : (rows : List (String Y × Entry)) (id : Text) (r : Record) → IsDistinct string_eq (keys_of rows)
      → IsPermutation ((id, r) ∷ map pair (others id rows)) (finite.entries (finite.insert (records_in rows) id r))
  entries_with rows id r apart =
      let rest = others id rows in
      let distinct = IsDistinct-keys_filter string_eq (λ (row : String Y × Entry). not (bytes_eq (string_bytes row.0) id)) rows apart in
      let none = ap (λ s. finite.get s id) (records_of_others id rows) ∙ finite.get-remove text_cmp_total (records_in rows) id id ∙ ap (λ b. cond b None (finite.get (records_in rows) id)) (text_ties id) in
      subst (λ s. IsPermutation ((id, r) ∷ map pair rest) (finite.entries s)) (ap (λ s. finite.insert s id r) (records_of_others id rows) ∙ insert_over (records_in rows) id r)
      (IsPermutation-trans ((id, r) ∷ map pair rest) ((id, r) ∷ finite.entries (records_in rest)) (finite.entries (finite.insert (records_in rest) id r))
      (IsPermutation-cons (id, r) (map pair rest) (finite.entries (records_in rest)) (entries_move rest distinct))
      (insert_moves (records_in rest) id r none))

  -- ---- one entry a text

  -- what is found behind a row is found with it
  found_behind : (row : String Y × Entry) (rows : List (String Y × Entry)) → IsDistinct string_eq (keys_of (row ∷ rows)) → (q : Text) (e : Entry)
      → lookup (λ k. bytes_eq q (string_bytes k)) rows ≡ Some e → lookup (λ k. bytes_eq q (string_bytes k)) (row ∷ rows) ≡ Some e
  found_behind row rows apart q e is = by (tie q (string_bytes row.0))
    where
      by : Tie q (string_bytes row.0) → lookup (λ k. bytes_eq q (string_bytes k)) (row ∷ rows) ≡ Some e
      by (ties same) = absurd (not_none e (sym (absent_later row rows apart) ∙ ap (λ t. lookup (λ k. bytes_eq t (string_bytes k)) rows) (sym same) ∙ is))
      by (differs other so) = ap (λ b. cond b (Some row.1) (lookup (λ k. bytes_eq q (string_bytes k)) rows)) (sym (tied_bytes q (string_bytes row.0)) ∙ so) ∙ is

  -- a row's entry is found by its text
  found_first : (row : String Y × Entry) (rows : List (String Y × Entry)) → lookup (λ k. bytes_eq (string_bytes row.0) (string_bytes k)) (row ∷ rows) ≡ Some row.1
  found_first row rows = ap (λ b. cond b (Some row.1) (lookup (λ k. bytes_eq (string_bytes row.0) (string_bytes k)) rows)) (same_bytes (string_bytes row.0))

  abbrev AreNamed : List (String Y × Entry) → Type 0
  AreNamed rows = (m : Text) (e : Entry) → lookup (λ k. bytes_eq m (string_bytes k)) rows ≡ Some e → e.id ≡ m

  abbrev seen_by_text : String Y × Entry → Subscriber
  seen_by_text row = subscriber_of (string_bytes row.0, row.1.kept)

  seen_alike : (rows : List (String Y × Entry)) → IsDistinct string_eq (keys_of rows) → AreNamed rows → map seen_of rows ≡ map seen_by_text rows
  seen_alike [] apart named = refl
  seen_alike (row ∷ rows) apart named =
      let rest = seen_alike rows (IsDistinct-tail string_eq row.0 (keys_of rows) apart) (λ m e is. named m e (found_behind row rows apart m e is)) in
      let own = named (string_bytes row.0) row.1 (found_first row rows) in
      λ i. subscriber_of (own i, row.1.kept) ∷ rest i

  named_others : (rows : List (String Y × Entry)) (id : Text) → AreNamed rows → AreNamed (others id rows)
  named_others rows id named m e is = named m e (by (bytes_eq m id) (sym (lookup-others id rows m) ∙ is))
    where
      by : (b : Bool) → cond (not b) (lookup (λ k. bytes_eq m (string_bytes k)) rows) None ≡ Some e → lookup (λ k. bytes_eq m (string_bytes k)) rows ≡ Some e
      by true is = absurd (not_none e is)
      by false is = is

  -- ---- ids that are apart

  texts_apart : (row : String Y × Entry) (rows : List (String Y × Entry)) → AllByRecursion (λ k. string_eq row.0 k ≡ false) (keys_of rows)
      → AllByRecursion (λ t. eq_by_cmp text_cmp (string_bytes row.0) t ≡ false) (map (λ r. string_bytes r.0) rows)
  texts_apart row [] all = all
  texts_apart row (r ∷ rs) all = (tied_bytes (string_bytes row.0) (string_bytes r.0) ∙ all.0, texts_apart row rs all.1)

  pub distinct_texts : (rows : List (String Y × Entry)) → IsDistinct string_eq (keys_of rows) → IsDistinct (eq_by_cmp text_cmp) (map (λ r. string_bytes r.0) rows)
  unfolding IsDistinct
  distinct_texts [] apart = tt
  distinct_texts (row ∷ rows) apart = (texts_apart row rows apart.0, distinct_texts rows apart.1)

  texts_alike : (rows : List (String Y × Entry)) → map (λ r. string_bytes r.0) rows ≡ texts_in rows
  texts_alike [] = refl
  texts_alike (row ∷ rows) = ap (λ l. string_bytes row.0 ∷ l) (texts_alike rows)

  pub distinct_in : (rows : List (String Y × Entry)) → IsDistinct string_eq (keys_of rows) → IsDistinct (eq_by_cmp text_cmp) (texts_in rows)
  distinct_in rows apart = subst (IsDistinct (eq_by_cmp text_cmp)) (texts_alike rows) (distinct_texts rows apart)

  others_apart : (id : Text) (rows : List (String Y × Entry)) → AllByRecursion (λ t. eq_by_cmp text_cmp id t ≡ false) (map (λ r. string_bytes r.0) (others id rows))
  others_apart id [] = tt
  others_apart id (row ∷ rows) =
      elim (bytes_eq (string_bytes row.0) id) as (λ b. bytes_eq (string_bytes row.0) id ≡ b → AllByRecursion (λ t. eq_by_cmp text_cmp id t ≡ false) (map (λ r. string_bytes r.0) (cond (not b) (row ∷ others id rows) (others id rows)))) [
        | true ↦ λ _. others_apart id rows
        | false ↦ λ so. (sym (tied_bytes_turned (string_bytes row.0) id) ∙ so, others_apart id rows)
      ] refl

  ids_seen : (rows : List (String Y × Entry)) → map (λ (s : Subscriber). s.id) (map seen_by_text rows) ≡ map (λ r. string_bytes r.0) rows
  ids_seen [] = refl
  ids_seen (row ∷ rows) = ap (λ l. string_bytes row.0 ∷ l) (ids_seen rows)

  distinct_ids : (rows : List (String Y × Entry)) (id : Text) (r : Record) → IsDistinct string_eq (keys_of rows)
      → IsDistinct (eq_by_cmp text_cmp) (map (λ (s : Subscriber). s.id) (subscriber_of (id, r) ∷ map seen_by_text (others id rows)))
  unfolding IsDistinct
  distinct_ids rows id r apart =
      subst (λ ids. IsDistinct (eq_by_cmp text_cmp) (id ∷ ids)) (sym (ids_seen (others id rows)))
      (others_apart id rows, distinct_texts (others id rows) (IsDistinct-keys_filter string_eq (λ (row : String Y × Entry). not (bytes_eq (string_bytes row.0) id)) rows apart))

  -- ---- the members as an assignor sees them

  pub seen_others : (rows : List (String Y × Entry)) (id : Text) → IsDistinct string_eq (keys_of rows) → AreNamed rows → map seen_of (others id rows) ≡ map seen_by_text (others id rows)
  seen_others rows id apart named =
      seen_alike (others id rows) (IsDistinct-keys_filter string_eq (λ (row : String Y × Entry). not (bytes_eq (string_bytes row.0) id)) rows apart) (named_others rows id named)

  pub members_apart : (rows : List (String Y × Entry)) (id : Text) (r : Record) → IsDistinct string_eq (keys_of rows) → AreNamed rows
      → IsDistinct (eq_by_cmp text_cmp) (map (λ (s : Subscriber). s.id) (subscriber_of (id, r) ∷ map seen_of (others id rows)))
  members_apart rows id r apart named =
      subst (λ l. IsDistinct (eq_by_cmp text_cmp) (map (λ (s : Subscriber). s.id) (subscriber_of (id, r) ∷ l))) (sym (seen_others rows id apart named)) (distinct_ids rows id r apart)

  subscribers_alike : (rows : List (String Y × Entry)) → map subscriber_of (map pair rows) ≡ map seen_by_text rows
  subscribers_alike [] = refl
  subscribers_alike (row ∷ rows) = ap (λ l. seen_by_text row ∷ l) (subscribers_alike rows)

  pub members_move : (rows : List (String Y × Entry)) (id : Text) (r : Record) (subs : List Subscriber) → IsDistinct string_eq (keys_of rows) → AreNamed rows
      → IsPermutation (subscriber_of (id, r) ∷ map seen_of (others id rows)) subs → IsPermutation (map subscriber_of (finite.entries (finite.insert (records_in rows) id r))) subs
  members_move rows id r subs apart named moves =
      let stored = finite.entries (finite.insert (records_in rows) id r) in
      let given = (id, r) ∷ map pair (others id rows) in
      let alike : map subscriber_of given ≡ subscriber_of (id, r) ∷ map seen_of (others id rows) = ap (λ l. subscriber_of (id, r) ∷ l) (subscribers_alike (others id rows) ∙ sym (seen_others rows id apart named)) in
      IsPermutation-trans (map subscriber_of stored) (map subscriber_of given) subs
      (IsPermutation-sym (map subscriber_of given) (map subscriber_of stored) (IsPermutation-map subscriber_of given stored (entries_with rows id r apart)))
      (subst (λ l. IsPermutation l subs) (sym alike) moves)
