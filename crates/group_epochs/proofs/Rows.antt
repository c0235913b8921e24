-- What the records and the marks of a table are after a change at one id.
use Rattle.std.proofs.Common.{◌≡◌, ℕ, Bool, true, false, cond, Option, Some, None, List, [], ◌∷◌, String, refl, sym, ap, ◌∙◌, slice_get, is_some, zero, suc, ◌||◌, ◌++◌, map, length, ◌<◌, arith, take, drop}
use Rattle.std.specs.Prelude.{string_bytes, option_map, option_and_then}
use Rattle.std.specs.List.{list_any, swap_remove}
use Rattle.std.specs.Map.{keys_of, lookup}
use Rattle.std.proofs.lemmas.List.{map-append}
use Rattle.std.proofs.Math.ListN.{length-map}
use Rattle.std.proofs.Math.Seq.{take-append_seam}
use Rattle.indexmap.proofs.SetLemmas.{map-swap_remove}
use Rattle.std.specs.Ordering.{eq_by_cmp}
use Rattle.std.specs.Cmp.{eq_by_cmp_equiv}
use Rattle.std.specs.Str.{bytes_eq}
use Rattle.std.specs.String.{string_eq}
use Rattle.std.specs.FinMap as finite
use Rattle.std.proofs.lemmas.Map.Text.{hash_map_updates_text, is_eq-slice_cmp}
use Rattle.indexmap.specs.IndexMap.{IndexMap, UpdatesBy, get_by_text}
use Rattle.group_types.specs.Text.{Text, text_cmp}
use Rattle.group_types.specs.Group.{Record}
use Rattle.group_types.proofs.Orders.{text_cmp_total, text_cmp-IsAntisymmetric}
use Rattle.group_types.proofs.Lookups.{Tie, ties, differs, not_none, some_is, tie, text_ties}
use Rattle.group_epochs.specs.Records.{Marks}
use Rattle.group_epochs.specs.Table.{marks_in, records_in, text_at, texts_in, with_mark}
use Rattle.group_epochs.specs.declared.entry.Entry.{Entry}

-- ---- a map of texts that changes at one of them

module _ {X : Type 0} where
  -- at the key it answers so, and at the others as before
  abbrev pub Answers : finite.FinMap text_cmp X → finite.FinMap text_cmp X → Text → Option X → Type 0
  Answers s n k o = (q : Text) → finite.get n q ≡ cond (eq_by_cmp text_cmp q k) o (finite.get s q)

  pub inserted : (s n : finite.FinMap text_cmp X) (k : Text) (v : X) → Answers s n k (Some v) → n ≡ finite.insert s k v
  inserted s n k v so =
      finite.same_map text_cmp_total text_cmp-IsAntisymmetric n (finite.insert s k v) (λ q. so q ∙ sym (finite.get-insert text_cmp_total s k v q))

  pub removed : (s n : finite.FinMap text_cmp X) (k : Text) → Answers s n k None → n ≡ finite.remove s k
  removed s n k so =
      finite.same_map text_cmp_total text_cmp-IsAntisymmetric n (finite.remove s k) (λ q. so q ∙ sym (finite.get-remove text_cmp_total s k q))

  same_at : (s : finite.FinMap text_cmp X) (k q : Text) → Tie q k → cond (eq_by_cmp text_cmp q k) (finite.get s k) (finite.get s q) ≡ finite.get s q
  same_at s k q (ties is) =
      ap (λ b. cond b (finite.get s k) (finite.get s q)) (ap (λ t. eq_by_cmp text_cmp t k) is ∙ text_ties k) ∙ ap (finite.get s) (sym is)
  same_at s k q (differs other apart) = ap (λ b. cond b (finite.get s k) (finite.get s q)) apart

  pub stays : (s n : finite.FinMap text_cmp X) (k : Text) → Answers s n k (finite.get s k) → n ≡ s
  stays s n k so =
      finite.same_map text_cmp_total text_cmp-IsAntisymmetric n s (λ q. so q ∙ same_at s k q (tie q k))

-- ---- a look-up by text

either_way : {A B : Type 0} (f : A → B) (b : Bool) (x y : A) → f (cond b x y) ≡ cond b (f x) (f y)
either_way f true x y = refl
either_way f false x y = refl

pub tied_bytes : (m n : Text) → eq_by_cmp text_cmp m n ≡ bytes_eq m n
tied_bytes m n = is_eq-slice_cmp m n

-- the same with the two turned
pub tied_bytes_turned : (m n : Text) → bytes_eq m n ≡ eq_by_cmp text_cmp n m
tied_bytes_turned m n = sym (tied_bytes m n) ∙ (eq_by_cmp_equiv text_cmp_total).symm m n

abbrev pub kept_in : Option Entry → Option Record
kept_in o = option_map (λ e. e.kept) o

abbrev pub mark_in : Option Entry → Option ℕ
mark_in o = option_and_then (λ e. e.mark) o

get-with_mark : (marks : Marks) (m : Text) (mark : Option ℕ) (q : Text) → finite.get (with_mark marks m mark) q ≡ cond (eq_by_cmp text_cmp q m) mark (finite.get marks q)
get-with_mark marks m None q = finite.get-remove text_cmp_total marks m q
get-with_mark marks m (Some epoch) q = finite.get-insert text_cmp_total marks m epoch q

module _ {Y : Type 0} where
  pub get-records_in : (rows : List (String Y × Entry)) (q : Text) → finite.get (records_in rows) q ≡ kept_in (lookup (λ k. bytes_eq q (string_bytes k)) rows)
  get-records_in [] q = finite.get-empty text_cmp q
  get-records_in (row ∷ rows) q =
      finite.get-insert text_cmp_total (records_in rows) (string_bytes row.0) row.1.kept q
      ∙ (λ i. cond (tied_bytes q (string_bytes row.0) i) (Some row.1.kept) (get-records_in rows q i))
      ∙ sym (either_way kept_in (bytes_eq q (string_bytes row.0)) (Some row.1) (lookup (λ k. bytes_eq q (string_bytes k)) rows))

  pub get-marks_in : (rows : List (String Y × Entry)) (q : Text) → finite.get (marks_in rows) q ≡ mark_in (lookup (λ k. bytes_eq q (string_bytes k)) rows)
  get-marks_in [] q = finite.get-empty text_cmp q
  get-marks_in (row ∷ rows) q =
      get-with_mark (marks_in rows) (string_bytes row.0) row.1.mark q
      ∙ (λ i. cond (tied_bytes q (string_bytes row.0) i) row.1.mark (get-marks_in rows q i))
      ∙ sym (either_way mark_in (bytes_eq q (string_bytes row.0)) (Some row.1) (lookup (λ k. bytes_eq q (string_bytes k)) rows))

-- ---- a table that changes at one id

module _ {Y S : Type 0} (m n : IndexMap (String Y) Entry S) (id : Text) (w : Option Entry)
    (updates : UpdatesBy string_eq (λ k. bytes_eq id (string_bytes k)) m n w) where
  pub found_after : (q : Text) → get_by_text n q ≡ cond (eq_by_cmp text_cmp q id) w (get_by_text m q)
  found_after q = hash_map_updates_text id m n w updates q ∙ ap (λ b. cond b w (get_by_text m q)) (tied_bytes_turned id q)

  pub records_after : Answers (records_in m.entries) (records_in n.entries) id (kept_in w)
  records_after q =
      get-records_in n.entries q
      ∙ ap kept_in (found_after q)
      ∙ either_way kept_in (eq_by_cmp text_cmp q id) w (get_by_text m q)
      ∙ ap (cond (eq_by_cmp text_cmp q id) (kept_in w)) (sym (get-records_in m.entries q))

  pub marks_after : Answers (marks_in m.entries) (marks_in n.entries) id (mark_in w)
  marks_after q =
      get-marks_in n.entries q
      ∙ ap mark_in (found_after q)
      ∙ either_way mark_in (eq_by_cmp text_cmp q id) w (get_by_text m q)
      ∙ ap (cond (eq_by_cmp text_cmp q id) (mark_in w)) (sym (get-marks_in m.entries q))

-- ---- the texts, place by place

module _ {Y : Type 0} where
  pub text_found : (rows : List (String Y × Entry)) (i : ℕ) (row : String Y × Entry) → slice_get rows i ≡ Some row → text_at (texts_in rows) i ≡ string_bytes row.0
  text_found [] i row is = absurd (not_none row is)
  text_found (r ∷ rows) zero row is = ap (λ (r : String Y × Entry). string_bytes r.0) (some_is r row is)
  text_found (r ∷ rows) (suc i) row is = text_found rows i row is

  pub texts_hold : (rows : List (String Y × Entry)) (m : Text) → list_any (eq_by_cmp text_cmp m) (texts_in rows) ≡ is_some (lookup (λ k. bytes_eq m (string_bytes k)) rows)
  texts_hold [] m = refl
  texts_hold (row ∷ rows) m =
      (λ i. tied_bytes m (string_bytes row.0) i || texts_hold rows m i)
      ∙ elim (bytes_eq m (string_bytes row.0)) as (λ b. (b || is_some (lookup (λ k. bytes_eq m (string_bytes k)) rows)) ≡ is_some (cond b (Some row.1) (lookup (λ k. bytes_eq m (string_bytes k)) rows))) [ true ↦ refl | false ↦ refl ]

  -- one more text, where a row comes last
  pub texts_behind : (rows after : List (String Y × Entry)) (k : String Y) (e : Entry) → after ≡ rows ++ (k, e) ∷ [] → texts_in after ≡ texts_in rows ++ string_bytes k ∷ []
  texts_behind rows after k e is =
      ap texts_in is ∙ ap (map string_bytes) (map-append (λ (row : String Y × Entry). row.0) rows ((k, e) ∷ [])) ∙ map-append string_bytes (keys_of rows) (k ∷ [])

  pub length-texts_in : (rows : List (String Y × Entry)) → length (texts_in rows) ≡ length rows
  length-texts_in rows = length-map (keys_of rows) string_bytes ∙ length-map rows (λ row. row.0)

  -- a row goes, and the last one comes to its place
  pub texts_fewer : (rows after : List (String Y × Entry)) (p : ℕ) (row : String Y × Entry) → 0 < length rows → after ≡ swap_remove rows p row → texts_in after ≡ swap_remove (texts_in rows) p (string_bytes row.0)
  texts_fewer rows after p row some is =
      ap texts_in is
      ∙ ap (map string_bytes) (map-swap_remove (λ (row : String Y × Entry). row.0) rows p row some)
      ∙ map-swap_remove string_bytes (keys_of rows) p row.0 (let long = length-map rows (λ (row : String Y × Entry). row.0) in omega (arith, long, some))

-- a place below the length has something
pub found_within : {X : Type 0} (xs : List X) (i : ℕ) → i < length xs → slice_get xs i ≡ None → ⊥
found_within [] i within none = omega (arith, within)
found_within (x ∷ xs) zero within none = not_none x (sym none)
found_within (x ∷ xs) (suc i) within none = found_within xs i (omega (arith, within)) none

-- a part that was all of a list, written back
pub all_written : {X : Type 0} (new old : List X) (n : ℕ) → length new ≡ length old → n ≡ length old → take n (new ++ drop (length new) old) ≡ new
all_written new old n same all = ap (λ k. take k (new ++ drop (length new) old)) (all ∙ sym same) ∙ take-append_seam new (drop (length new) old)
