-- The entries of the groups, seen as a finite map from the bytes of the names.
use Rattle.std.proofs.Common.{◌≡◌, ℕ, zero, suc, ◌+◌, ◌<◌, Bool, true, false, not, cond, List, [], ◌∷◌, ◌++◌, length, map, position, slice_get, Option, option_map, Some, None, is_some, refl, sym, ap, subst, ◌∙◌, arith, true≢false, String, Global}
use Rattle.std.specs.FinMap as finite
use Rattle.std.specs.FinMap.{find}
use Rattle.std.specs.List.{AllByRecursion, IsDistinct, position_or_len}
use Rattle.std.specs.Map.{lookup, keys_of, values_of}
use Rattle.std.specs.Ordering.{eq_by_cmp}
use Rattle.std.specs.String.{string_bytes, string_eq}
use Rattle.std.specs.Str.{bytes_eq}
use Rattle.std.proofs.lemmas.Map.Text.{is_eq-slice_cmp}
use Rattle.std.proofs.lemmas.Slice.Eq.{bytes_eq-Decides}
use Rattle.indexmap.specs.IndexMap.{set_value_at, insert_entry}
use Rattle.indexmap.proofs.MapLemmas.{Found-position, some_index, absent_from_lookup, insert_entry-absent}
use Rattle.group_types.specs.Text.{Text, text_cmp}
use Rattle.group_types.proofs.Orders.{text_cmp_total, text_cmp-IsAntisymmetric}
use Rattle.group_types.proofs.Lookups.{same_text, some_is}

-- each key as its bytes, and what is seen of each value
module _ {X Y : Type 0} (f : X → Y) where
  abbrev pub by_bytes : List (String Global × X) → List (Text × Y)
  by_bytes es = map (λ e. (string_bytes e.0, f e.1)) es

  abbrev pub as_map : List (String Global × X) → finite.FinMap text_cmp Y
  as_map es = finite.from_entries (by_bytes es)

  -- the value under the bytes
  abbrev pub entry_at : List (String Global × X) → Text → Option X
  entry_at es name = lookup (λ k. bytes_eq name (string_bytes k)) es

  find-by_bytes : (es : List (String Global × X)) (name : Text) → option_map f (entry_at es name) ≡ find text_cmp name (by_bytes es)
  find-by_bytes [] name = refl
  find-by_bytes (e ∷ es) name =
      elim (bytes_eq name (string_bytes e.0)) as (λ b. option_map f (cond b (Some e.1) (entry_at es name)) ≡ cond b (Some (f e.1)) (find text_cmp name (by_bytes es))) [ true ↦ refl | false ↦ find-by_bytes es name ]
      ∙ ap (λ b. cond b (Some (f e.1)) (find text_cmp name (by_bytes es))) (sym (is_eq-slice_cmp name (string_bytes e.0)))

  pub get-as_map : (es : List (String Global × X)) (name : Text) → finite.get (as_map es) name ≡ option_map f (entry_at es name)
  get-as_map es name = finite.get-from_entries text_cmp_total (by_bytes es) name ∙ sym (find-by_bytes es name)

  -- what differs from each key isn't found
  pub none_found : (k : String Global) (es : List (String Global × X)) → AllByRecursion (λ y. string_eq k y ≡ false) (keys_of es) → entry_at es (string_bytes k) ≡ None
  none_found k [] differ = refl
  none_found k (e ∷ es) differ = ap (λ b. cond b (Some e.1) (entry_at es (string_bytes k))) (differ.0) ∙ none_found k es differ.1

  pub len-as_map : (es : List (String Global × X)) → IsDistinct string_eq (keys_of es) → finite.len (as_map es) ≡ length es
  unfolding IsDistinct
  len-as_map [] distinct = finite.len-empty text_cmp Y
  len-as_map (e ∷ es) distinct =
      let absent : finite.get (as_map es) (string_bytes e.0) ≡ None = get-as_map es (string_bytes e.0) ∙ ap (option_map f) (none_found e.0 es distinct.0) in
      finite.len-insert text_cmp_total (as_map es) (string_bytes e.0) (f e.1)
      ∙ ap (λ o. cond (is_some o) (finite.len (as_map es)) (finite.len (as_map es) + 1)) absent
      ∙ ap (λ n. n + 1) (len-as_map es distinct.1) ∙ omega arith

  by_bytes-push : (es : List (String Global × X)) (k : String Global) (x : X) → by_bytes (es ++ (k, x) ∷ []) ≡ by_bytes es ++ (string_bytes k, f x) ∷ []
  by_bytes-push [] k x = refl
  by_bytes-push (e ∷ es) k x = ap (λ rest. (string_bytes e.0, f e.1) ∷ rest) (by_bytes-push es k x)

  -- to push an entry under a new name is to insert it
  pub as_map-push : (es : List (String Global × X)) (k : String Global) (x : X) (name : Text) → string_bytes k ≡ name → finite.get (as_map es) name ≡ None
      → as_map (es ++ (k, x) ∷ []) ≡ finite.insert (as_map es) name (f x)
  as_map-push es k x name is absent =
      let there : finite.get (as_map es) (string_bytes k) ≡ None = ap (finite.get (as_map es)) is ∙ absent in
      ap finite.from_entries (by_bytes-push es k x)
      ∙ finite.from_entries_push text_cmp_total text_cmp-IsAntisymmetric (by_bytes es) (string_bytes k) (f x)
      (sym (finite.get-from_entries text_cmp_total (by_bytes es) (string_bytes k)) ∙ there)
      ∙ ap (λ n. finite.insert (as_map es) n (f x)) is

  option_map-None : (o : Option X) → option_map f o ≡ None → o ≡ None
  option_map-None None is = refl
  option_map-None (Some x) is = absurd (true≢false (ap is_some is))

  -- an entry under a name that is new goes last
  pub insert_entry-absent_name : (es : List (String Global × X)) (k : String Global) (x : X) (name : Text) → string_bytes k ≡ name → finite.get (as_map es) name ≡ None
      → insert_entry string_eq es k x ≡ es ++ (k, x) ∷ []
  insert_entry-absent_name es k x name is absent =
      let none : entry_at es name ≡ None = option_map-None (entry_at es name) (sym (get-as_map es name) ∙ absent) in
      insert_entry-absent string_eq k x es (absent_from_lookup (string_eq k) es (ap (entry_at es) is ∙ none))

  -- ---- a write at the place of a name

  -- the keys before the place have other bytes, and the one at the place has these
  abbrev IsPlaceOf : Text → List (String Global × X) → ℕ → Type 0
  IsPlaceOf name [] i = ⊥
  IsPlaceOf name (e ∷ es) zero = bytes_eq name (string_bytes e.0) ≡ true
  IsPlaceOf name (e ∷ es) (suc i) = (bytes_eq name (string_bytes e.0) ≡ false) × IsPlaceOf name es i

  set_at_place : (name q : Text) (es : List (String Global × X)) (i : ℕ) (w : X) → IsPlaceOf name es i
      → find text_cmp q (by_bytes (set_value_at es i w)) ≡ cond (eq_by_cmp text_cmp q name) (Some (f w)) (find text_cmp q (by_bytes es))
  set_at_place name q [] i w place = absurd place
  set_at_place name q (e ∷ es) zero w place =
      let same : name ≡ string_bytes e.0 = (bytes_eq-Decides name (string_bytes e.0)).0 place in
      ap (λ n. cond (eq_by_cmp text_cmp q n) (Some (f w)) (find text_cmp q (by_bytes es))) (sym same)
      ∙ elim (eq_by_cmp text_cmp q name) as (λ b. cond b (Some (f w)) (find text_cmp q (by_bytes es)) ≡ cond b (Some (f w)) (cond b (Some (f e.1)) (find text_cmp q (by_bytes es)))) [ true ↦ refl | false ↦ refl ]
      ∙ ap (λ n. cond (eq_by_cmp text_cmp q name) (Some (f w)) (cond (eq_by_cmp text_cmp q n) (Some (f e.1)) (find text_cmp q (by_bytes es)))) same
  set_at_place name q (e ∷ es) (suc i) w place =
      let rest = set_at_place name q es i w place.1 in
      ap (cond (eq_by_cmp text_cmp q (string_bytes e.0)) (Some (f e.1))) rest
      ∙ by (eq_by_cmp text_cmp q (string_bytes e.0)) (eq_by_cmp text_cmp q name) refl refl
    where
      by : (a b : Bool) → eq_by_cmp text_cmp q (string_bytes e.0) ≡ a → eq_by_cmp text_cmp q name ≡ b
          → cond a (Some (f e.1)) (cond b (Some (f w)) (find text_cmp q (by_bytes es))) ≡ cond b (Some (f w)) (cond a (Some (f e.1)) (find text_cmp q (by_bytes es)))
      by true true is_this is_name =
          let same : name ≡ string_bytes e.0 = sym (same_text q name is_name) ∙ same_text q (string_bytes e.0) is_this in
          absurd (true≢false (sym ((bytes_eq-Decides name (string_bytes e.0)).1 same) ∙ place.0))
      by true false is_this is_name = refl
      by false true is_this is_name = refl
      by false false is_this is_name = refl

  is_place : (name : Text) (es : List (String Global × X)) → position_or_len (λ k. bytes_eq name (string_bytes k)) (keys_of es) < length es
      → IsPlaceOf name es (position_or_len (λ k. bytes_eq name (string_bytes k)) (keys_of es))
  is_place name [] within = absurd (omega arith)
  is_place name (e ∷ es) within = by (bytes_eq name (string_bytes e.0)) refl within (λ lt. is_place name es lt)
    where
      rest : ℕ
      rest = position_or_len (λ k. bytes_eq name (string_bytes k)) (keys_of es)

      by : (b : Bool) → bytes_eq name (string_bytes e.0) ≡ b → cond (not b) (1 + rest) 0 < length (e ∷ es) → (rest < length es → IsPlaceOf name es rest)
          → IsPlaceOf name (e ∷ es) (cond (not b) (1 + rest) 0)
      by true is lt behind = is
      by false is lt behind =
          let next : suc rest ≡ 1 + rest = omega arith in
          subst (IsPlaceOf name (e ∷ es)) next (is, behind (omega arith))

  -- to write at the place of a name is to insert the value under it
  pub as_map-set : (es : List (String Global × X)) (name : Text) (i : ℕ) (w : X) → position (λ k. bytes_eq name (string_bytes k)) (keys_of es) ≡ Some i
      → as_map (set_value_at es i w) ≡ finite.insert (as_map es) name (f w)
  as_map-set es name i w at =
      let here = Found-position (λ k. bytes_eq name (string_bytes k)) es i at in
      let within : position_or_len (λ k. bytes_eq name (string_bytes k)) (keys_of es) < length es = subst (λ n. n < length es) (sym here.or_len) here.within in
      let place : IsPlaceOf name es i = subst (IsPlaceOf name es) here.or_len (is_place name es within) in
      finite.same_map text_cmp_total text_cmp-IsAntisymmetric (as_map (set_value_at es i w)) (finite.insert (as_map es) name (f w))
      (λ q. finite.get-from_entries text_cmp_total (by_bytes (set_value_at es i w)) q
      ∙ set_at_place name q es i w place
      ∙ ap (cond (eq_by_cmp text_cmp q name) (Some (f w))) (sym (finite.get-from_entries text_cmp_total (by_bytes es) q))
      ∙ sym (finite.get-insert text_cmp_total (as_map es) name (f w) q))

-- a name with no place has no entry
pub absent_entry : {X : Type 0} (es : List (String Global × X)) (name : Text) → position (λ k. bytes_eq name (string_bytes k)) (keys_of es) ≡ None
    → lookup (λ k. bytes_eq name (string_bytes k)) es ≡ None
absent_entry es name none =
    by (lookup (λ k. bytes_eq name (string_bytes k)) es) (sym (some_index (λ k. bytes_eq name (string_bytes k)) es) ∙ ap is_some none)
  where
    by : {X : Type 0} (o : Option X) → is_some o ≡ false → o ≡ None
    by None is = refl
    by (Some x) is = absurd (true≢false is)

-- ---- what holds of each value

module _ {K X : Type 0} (P : X → Type 0) where
  abbrev pub OfEach : List (K × X) → Type 0
  OfEach es = AllByRecursion (λ e. P e.1) es

  pub OfEach-push : (es : List (K × X)) (k : K) (x : X) → OfEach es → P x → OfEach (es ++ (k, x) ∷ [])
  OfEach-push [] k x each p = (p, tt)
  OfEach-push (e ∷ es) k x each p = (each.0, OfEach-push es k x each.1 p)

  pub OfEach-set : (es : List (K × X)) (i : ℕ) (w : X) → OfEach es → P w → OfEach (set_value_at es i w)
  OfEach-set [] i w each p = tt
  OfEach-set (e ∷ es) zero w each p = (p, each.1)
  OfEach-set (e ∷ es) (suc i) w each p = (each.0, OfEach-set es i w each.1 p)

  pub OfEach-at : (es : List (K × X)) (i : ℕ) (x : X) → OfEach es → slice_get (values_of es) i ≡ Some x → P x
  OfEach-at [] i x each at = absurd (true≢false (sym (ap is_some at)))
  OfEach-at (e ∷ es) zero x each at = subst P (some_is e.1 x at) each.0
  OfEach-at (e ∷ es) (suc i) x each at = OfEach-at es i x each.1 at

pub OfEach-weaker : {K X : Type 0} (P Q : X → Type 0) → ((x : X) → P x → Q x) → (es : List (K × X)) → OfEach P es → OfEach Q es
OfEach-weaker P Q weaker [] each = tt
OfEach-weaker P Q weaker (e ∷ es) each = (weaker e.1 each.0, OfEach-weaker P Q weaker es each.1)

pub length-set_value_at : {K X : Type 0} (es : List (K × X)) (i : ℕ) (x : X) → length (set_value_at es i x) ≡ length es
length-set_value_at [] i x = refl
length-set_value_at (e ∷ es) zero x = refl
length-set_value_at (e ∷ es) (suc i) x = ap suc (length-set_value_at es i x)
