-- Texts among the keys of a table: the first place that has one.
use Rattle.std.proofs.Common.{◌≡◌, refl, subst, map, ℕ, zero, suc, ◌+◌, ◌<◌, Bool, true, false, not, cond, List, [], ◌∷◌, length, get_or, position, slice_get, unwrap_or, is_some, Some, None, String, Global, sym, ap, ◌∙◌, ⊎_elim, arith, true≢false, nat_lt, lt-ltb}
use Rattle.std.specs.List.{IsDistinct, position_or_len}
use Rattle.std.specs.Map.{keys_of, values_of, lookup, set_value, AreApart, KeepsOthers}
use Rattle.std.specs.Prelude.{IsSome}
use Rattle.std.specs.Str.{bytes_eq}
use Rattle.std.specs.Cmp.{IsEquivalence}
use Rattle.std.specs.String.{string_bytes, string_eq, string_eq_equiv}
use Rattle.std.proofs.lemmas.Bool.{cases_Bool}
use Rattle.std.proofs.lemmas.Cmp.{nat_list_eq_equiv}
use Rattle.std.proofs.lemmas.List.{length-map, get_or-map}
use Rattle.std.proofs.lemmas.Map.{keys-set_value, length-set_value, lookup-set_value}
use Rattle.std.proofs.lemmas.Map.Keys.{apart_from_distinct}
use Rattle.std.proofs.lemmas.Option.{slice_get_within, get_or_from_slice_get}
use Rattle.indexmap.specs.IndexMap.{IndexMap, IsUnique, UpdatesBy, get_by_text, set_value_at, values, with_entries, with_value_at}
use Rattle.indexmap.proofs.MapLemmas.{Found-position}
use Rattle.group_types.specs.Text.{Text}
use Rattle.group_epochs.specs.declared.entry.Entry.{Entry}
use Rattle.group_epochs.specs.Table.{Rewrites}

-- a key whose bytes are the text's
abbrev has_text : List ℕ → String Global → Bool
has_text text key = bytes_eq text (string_bytes key)

module _ {V : Type 0} (text : List ℕ) where
  -- how many keys stand before the first that has the text, where one has it
  before_text : (es : List (String Global × V)) (i : ℕ) (k : String Global) (v : V) → IsDistinct string_eq (keys_of es)
      → slice_get es i ≡ Some (k, v) → has_text text k ≡ true → position_or_len (has_text text) (keys_of es) ≡ i
  unfolding IsDistinct
  before_text [] i k v distinct at same = absurd (true≢false (sym (ap is_some at)))
  before_text (e ∷ es) zero k v distinct at same =
      let it : e ≡ (k, v) = ap (λ o. unwrap_or o e) at in
      let passes : has_text text e.0 ≡ true = ap (λ (p : String Global × V). has_text text p.0) it ∙ same in
      ap (λ b. cond (not b) (1 + position_or_len (has_text text) (keys_of es)) 0) passes
  before_text (e ∷ es) (suc i) k v distinct at same =
      let rest = before_text es i k v distinct.1 at same in
      let inside : i < length es = slice_get_within es i (k, v) at in
      let long : length (keys_of es) ≡ length es = length-map es (λ (p : String Global × V). p.0) in
      let key : get_or (keys_of es) i k ≡ k = get_or-map (λ (p : String Global × V). p.0) es i (k, v) k inside ∙ ap (λ (p : String Global × V). p.0) (get_or_from_slice_get es i (k, v) (k, v) at) in
      let apart : string_eq e.0 k ≡ false = ap (string_eq e.0) (sym key) ∙ apart_from_distinct string_eq (keys_of (e ∷ es)) 0 (suc i) k distinct (omega arith) (omega (arith, long, inside)) in
      let fails : has_text text e.0 ≡ false =
      ⊎_elim (λ (h : has_text text e.0 ≡ true). absurd (true≢false (sym same ∙ nat_list_eq_equiv.congr text (string_bytes e.0) (string_bytes k) h ∙ apart))) (λ (h : has_text text e.0 ≡ false). h)
      (cases_Bool (has_text text e.0)) in
      ap (λ b. cond (not b) (1 + position_or_len (has_text text) (keys_of es)) 0) fails ∙ ap (λ n. 1 + n) rest ∙ omega arith

  -- where the text stands is the first place that has it
  pub first_of_text : (es : List (String Global × V)) (i : ℕ) (k : String Global) (v : V) → IsDistinct string_eq (keys_of es)
      → slice_get es i ≡ Some (k, v) → bytes_eq (string_bytes k) text ≡ true → position (λ key. bytes_eq text (string_bytes key)) (keys_of es) ≡ Some i
  first_of_text es i k v distinct at same =
      let passes : has_text text k ≡ true = nat_list_eq_equiv.symm text (string_bytes k) ∙ same in
      let first = before_text es i k v distinct at passes in
      let within : i < length (keys_of es) = omega (arith, slice_get_within es i (k, v) at, length-map es (λ (p : String Global × V). p.0)) in
      ap (λ n. cond (nat_lt n (length (keys_of es))) (Some n) None) first ∙ ap (λ b. cond b (Some i) None) (lt-ltb i _ within)

-- ---- a write at that place

-- a value that is there, written there
pub set_value_at-itself : {K X : Type 0} (es : List (K × X)) (i : ℕ) (x : X) → slice_get (values_of es) i ≡ Some x → set_value_at es i x ≡ es
set_value_at-itself [] i x at = refl
set_value_at-itself (e ∷ es) zero x at = ap (λ o. (e.0, unwrap_or o x) ∷ es) (sym at)
set_value_at-itself (e ∷ es) (suc i) x at = ap (λ rest. e ∷ rest) (set_value_at-itself es i x at)

module _ {K X : Type 0} (test : K → Bool) where
  -- a write at the place of the first key that passes
  set_at_first : (es : List (K × X)) (i : ℕ) (w : X) → position_or_len test (keys_of es) ≡ i → i < length es → set_value_at es i w ≡ set_value test es w
  set_at_first [] i w is inside = absurd (omega (arith, inside))
  set_at_first (e ∷ es) i w is inside = by (λ j. set_at_first es j w) (test e.0) i is inside
    where
      by : ((j : ℕ) → position_or_len test (keys_of es) ≡ j → j < length es → set_value_at es j w ≡ set_value test es w)
          → (b : Bool) (j : ℕ) → cond (not b) (1 + position_or_len test (keys_of es)) 0 ≡ j → j < length (e ∷ es) → set_value_at (e ∷ es) j w ≡ cond b ((e.0, w) ∷ es) (e ∷ set_value test es w)
      by rest true zero is inside = refl
      by rest true (suc j) is inside = absurd (omega (arith, is))
      by rest false zero is inside = absurd (omega (arith, is))
      by rest false (suc j) is inside = ap (λ es. e ∷ es) (rest j (omega (arith, is)) (omega (arith, inside)))

  -- what was written is found by the test, and other tests find what they found
  set_is_found : (es : List (K × X)) (w : X) → IsSome (lookup test es) → lookup test (set_value test es w) ≡ Some w
  set_is_found [] w some = absurd (true≢false (sym some))
  set_is_found (e ∷ es) w some = by (set_is_found es w) (test e.0) refl some
    where
      by : (IsSome (lookup test es) → lookup test (set_value test es w) ≡ Some w)
          → (b : Bool) → test e.0 ≡ b → IsSome (cond b (Some e.1) (lookup test es)) → lookup test (cond b ((e.0, w) ∷ es) (e ∷ set_value test es w)) ≡ Some w
      by rest true passes some = ap (λ b. cond b (Some w) (lookup test es)) passes
      by rest false fails some = ap (λ b. cond b (Some e.1) (lookup test (set_value test es w))) fails ∙ rest some

  set_is_apart : (other : K → Bool) → AreApart test other → (es : List (K × X)) (w : X) → lookup other (set_value test es w) ≡ lookup other es
  set_is_apart other apart [] w = refl
  set_is_apart other apart (e ∷ es) w = by (set_is_apart other apart es w) (test e.0) refl
    where
      by : lookup other (set_value test es w) ≡ lookup other es → (b : Bool) → test e.0 ≡ b → lookup other (cond b ((e.0, w) ∷ es) (e ∷ set_value test es w)) ≡ lookup other (e ∷ es)
      by rest true passes = ap (λ b. cond b (Some w) (lookup other es)) (apart e.0 passes) ∙ ap (λ b. cond b (Some e.1) (lookup other es)) (sym (apart e.0 passes))
      by rest false fails = ap (cond (other e.0) (Some e.1)) rest

  -- so the entry of the first key that passes is another one
  updates : (eq : K → K → Bool) → IsEquivalence eq → ((x y : K) → test x ≡ true → test y ≡ eq x y) → (es : List (K × X)) (w : X) → IsSome (lookup test es)
      → ((q : K) → lookup (eq q) (set_value test es w) ≡ cond (test q) (Some w) (lookup (eq q) es)) × (lookup test (set_value test es w) ≡ Some w)
      × ((q : K) → test q ≡ false → lookup (eq q) (set_value test es w) ≡ lookup (eq q) es) × KeepsOthers eq test es (set_value test es w)
  unfolding KeepsOthers
  updates eq laws one es w some = (
    λ q. lookup-set_value laws test one q w es some,
    set_is_found es w some,
    λ q fails. lookup-set_value laws test one q w es some ∙ ap (λ b. cond b (Some w) (lookup (eq q) es)) fails,
    λ other is_test apart. set_is_apart other apart es w,
  )

module _ {S : Type 0} where
  -- a table into which the entry at a place is written is as it was
  pub unwritten_at : (m : IndexMap (String Global) Entry S) (i : ℕ) (e : Entry) → Some e ≡ slice_get (values m) i → with_value_at m i e ≡ m
  unwritten_at m i e is = ap (λ (es : List (String Global × Entry)). with_entries m es) (set_value_at-itself m.entries i e (sym is))

  -- a write at the place of a member rewrites the member's entry
  pub rewrites_at : (m : IndexMap (String Global) Entry S) (id : Text) (i : ℕ) (e w : Entry) (change : Entry → Entry) → IsUnique string_eq m
      → position (λ key. bytes_eq id (string_bytes key)) (keys_of m.entries) ≡ Some i → get_by_text m id ≡ Some e → w ≡ change e
      → Rewrites m (with_value_at m i w) id change
  rewrites_at m id i e w change unique place found is =
      let test : String Global → Bool = λ key. bytes_eq id (string_bytes key) in
      let at = Found-position test m.entries i place in
      let rows : set_value_at m.entries i w ≡ set_value test m.entries w = set_at_first test m.entries i w at.or_len at.within in
      let keys : keys_of (set_value_at m.entries i w) ≡ keys_of m.entries = ap keys_of rows ∙ keys-set_value test m.entries w in
      let same : (x : Entry) → get_by_text m id ≡ Some x → w ≡ change x = λ x is_x. is ∙ ap change (ap (λ o. unwrap_or o e) (sym found ∙ is_x)) in
      record {
        entry = λ x is_x.
            subst (λ (p : List (String Global × Entry) × Entry). UpdatesBy string_eq test m (with_entries m p.0) (Some p.1)) (λ j. (sym rows j, same x is_x j))
            (updates test string_eq string_eq_equiv (λ x y. nat_list_eq_equiv.congr id (string_bytes x) (string_bytes y)) m.entries w (ap is_some found));
        len = ap length rows ∙ length-set_value test m.entries w;
        room = refl;
        texts = ap (map string_bytes) keys;
        rows = λ x is_x. rows ∙ ap (set_value test m.entries) (same x is_x);
        distinct = subst (IsDistinct string_eq) (sym keys) unique;
      }
