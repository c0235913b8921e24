-- The past as a list: where an id stands, and what taking one out or putting one last keeps.
use Rattle.std.proofs.Common.{◌≡◌, ℕ, zero, suc, ◌+◌, ◌<◌, Bool, true, false, cond, not, ◌||◌, ◌==◌, List, [], ◌∷◌, ◌++◌, length, map, drop, get_or, Option, Some, None, is_some, refl, sym, ap, subst, ◌∙◌, arith, true≢false}
use Rattle.std.specs.Prelude.{IsSome, OnSome}
use Rattle.std.specs.List.{HoldsAt, list_any, position, position_from, remove}
use Rattle.std.specs.Ordering.{eq_by_cmp}
use Rattle.std.specs.Str.{bytes_eq}
use Rattle.std.proofs.lemmas.Bool.Decides.{Decides-eqb}
use Rattle.std.proofs.lemmas.Iterator.Adapters.{position_from-zero}
use Rattle.std.proofs.lemmas.List.{length-append, map-append}
use Rattle.std.proofs.lemmas.List.Edits.{length-remove}
use Rattle.std.proofs.lemmas.List.Quantifiers.{position-Some}
use Rattle.std.proofs.lemmas.Slice.Eq.{bytes_eq-Decides}
use Rattle.std.specs.declared.random_state.RandomState.{RandomState}
use Rattle.group_types.specs.declared.stamp.Stamp.{Stamp}
use Rattle.group_types.specs.Text.{Text, text_cmp}
use Rattle.group_types.specs.Group.{Past}
use Rattle.group_types.specs.Limits.{MOST_PAST_MEMBERS}
use Rattle.group_types.specs.Members.{past_stamp, without_past}
use Rattle.group_types.proofs.ListLemmas.{map-remove}
use Rattle.group_types.proofs.Lookups.{Tie, ties, differs, tie, not_none, text_ties}
use Rattle.group_epochs.specs.Past.{AreApart, AreKept, IsPlaceOf, fingerprint}

abbrev pub Entry : Type 0
Entry = Text × Stamp

-- what is said of a value that is there
pub of_some : {X : Type 0} {P : Type 0} (o : Option X) → IsSome o → OnSome o P → P
of_some None there holds = absurd (true≢false (sym there))
of_some (Some x) there holds = holds

-- ---- where nothing is found

passes_none_first : {X : Type 0} (p : X → Bool) (i : ℕ) (x : X) (xs : List X) → position_from p i (x ∷ xs) ≡ None → (p x ≡ false) × (position_from p (i + 1) xs ≡ None)
passes_none_first p i x xs none =
    elim (p x) as (λ b. cond b (Some i) (position_from p (i + 1) xs) ≡ None → (b ≡ false) × (position_from p (i + 1) xs ≡ None)) [
      | true ↦ λ is. absurd (not_none i (sym is))
      | false ↦ λ is. (refl, is)
    ] none

passes_none_from : {X : Type 0} (p : X → Bool) (i : ℕ) (xs : List X) → position_from p i xs ≡ None → (k : ℕ) (d : X) → k < length xs → p (get_or xs k d) ≡ false
passes_none_from p i [] none k d within = absurd (omega (arith, within))
passes_none_from p i (x ∷ xs) none zero d within = (passes_none_first p i x xs none).0
passes_none_from p i (x ∷ xs) none (suc k) d within = passes_none_from p (i + 1) xs (passes_none_first p i x xs none).1 k d (omega (arith, within))

-- none passes where no place is found
pub passes_none : {X : Type 0} (p : X → Bool) (xs : List X) → position p xs ≡ None → (k : ℕ) (d : X) → k < length xs → p (get_or xs k d) ≡ false
passes_none p xs none = passes_none_from p 0 xs (sym (position_from-zero p xs) ∙ none)

another : (e : Entry) (past : Past) (m : Text) → Tie m e.0 → (m ≡ e.0 → ⊥) → past_stamp past m ≡ None → past_stamp (e ∷ past) m ≡ None
another e past m (ties same) other rest = absurd (other same)
another e past m (differs other apart) _ rest = ap (λ b. cond b (Some e.1) (past_stamp past m)) apart ∙ rest

-- an id isn't there whose fingerprint isn't
pub no_fingerprint : (hasher : RandomState) (past : Past) (m : Text)
    → ((k d : ℕ) → k < length (map (λ e. fingerprint hasher e.0) past) → (get_or (map (λ e. fingerprint hasher e.0) past) k d == fingerprint hasher m) ≡ false)
    → past_stamp past m ≡ None
no_fingerprint hasher [] m none = refl
no_fingerprint hasher (e ∷ past) m none =
    another e past m (tie m e.0)
    (λ same. true≢false (sym ((Decides-eqb (fingerprint hasher e.0) (fingerprint hasher m)).1 (ap (fingerprint hasher) (sym same))) ∙ none 0 0 (omega arith)))
    (no_fingerprint hasher past m (λ k d within. none (suc k) d (omega (arith, within))))

-- an id isn't there where no entry has it
pub no_entry : (past : Past) (m : Text) → ((k : ℕ) (d : Entry) → k < length past → (get_or past k d).0 ≡ m → ⊥) → past_stamp past m ≡ None
no_entry [] m none = refl
no_entry (e ∷ past) m none =
    another e past m (tie m e.0) (λ same. none 0 e (omega arith) (sym same)) (no_entry past m (λ k d within. none (suc k) d (omega (arith, within))))

-- the first one is another, and the rest hasn't it
first_differs : (e : Entry) (past : Past) (m : Text) → past_stamp (e ∷ past) m ≡ None → (eq_by_cmp text_cmp m e.0 ≡ false) × (past_stamp past m ≡ None)
first_differs e past m none =
    elim (eq_by_cmp text_cmp m e.0) as (λ b. cond b (Some e.1) (past_stamp past m) ≡ None → (b ≡ false) × (past_stamp past m ≡ None)) [
      | true ↦ λ is. absurd (not_none e.1 (sym is))
      | false ↦ λ is. (refl, is)
    ] none

-- the place that a search of all entries finds
pub place_searched : (past : Past) (m : Text) (place : Option ℕ) → place ≡ position (λ e. bytes_eq e.0 m) past → IsPlaceOf past m place
place_searched past m None is =
    no_entry past m (λ k d within same. true≢false (sym ((bytes_eq-Decides (get_or past k d).0 m).1 same) ∙ passes_none (λ e. bytes_eq e.0 m) past (sym is) k d within))
place_searched past m (Some i) is =
    let at : (d : Entry) → (i < length past) × (bytes_eq (get_or past i d).0 m ≡ true) × _ = λ d. position-Some (λ e. bytes_eq e.0 m) past i d (sym is) in
    ((at ([], record { connection = 0; frame = 0 })).0, λ d. (bytes_eq-Decides (get_or past i d).0 m).0 (at d).1)

-- ---- whether an id is remembered

pub is_remembered-stamp : (past : Past) (m : Text) → list_any (λ e. eq_by_cmp text_cmp m e.0) past ≡ is_some (past_stamp past m)
is_remembered-stamp [] m = refl
is_remembered-stamp (e ∷ past) m =
    elim (eq_by_cmp text_cmp m e.0) as (λ b. (b || list_any (λ e. eq_by_cmp text_cmp m e.0) past) ≡ is_some (cond b (Some e.1) (past_stamp past m))) [
      | true ↦ refl
      | false ↦ is_remembered-stamp past m
    ]

-- ---- where an id stands

pub stamp_at : (past : Past) (m : Text) (i : ℕ) (d : Entry) → AreApart past → i < length past → HoldsAt (λ e. e.0 ≡ m) past i → past_stamp past m ≡ Some (get_or past i d).1
stamp_at [] m i d apart within is = absurd (omega (arith, within))
stamp_at (e ∷ past) m zero d apart within is = ap (λ b. cond b (Some e.1) (past_stamp past m)) (ap (eq_by_cmp text_cmp m) (is d) ∙ text_ties m)
stamp_at (e ∷ past) m (suc i) d apart within is = by (tie m e.0) (stamp_at past m i d apart.1 (omega (arith, within)) is)
  where
    by : Tie m e.0 → past_stamp past m ≡ Some (get_or past i d).1 → past_stamp (e ∷ past) m ≡ Some (get_or past i d).1
    by (ties same) rest = absurd (not_none (get_or past i d).1 (sym apart.0 ∙ ap (past_stamp past) (sym same) ∙ rest))
    by (differs other so) rest = ap (λ b. cond b (Some e.1) (past_stamp past m)) so ∙ rest

-- an id that isn't there isn't taken out
pub without_absent : (past : Past) (m : Text) → past_stamp past m ≡ None → without_past past m ≡ past
without_absent [] m none = refl
without_absent (e ∷ past) m none =
    let there = first_differs e past m none in
    ap (λ b. cond (not b) (e ∷ without_past past m) (without_past past m)) there.0 ∙ ap (λ l. e ∷ l) (without_absent past m there.1)

-- an id is taken out where it stands
pub without_at : (past : Past) (m : Text) (i : ℕ) (d : Entry) → AreApart past → i < length past → HoldsAt (λ e. e.0 ≡ m) past i → without_past past m ≡ remove past i
without_at [] m i d apart within is = absurd (omega (arith, within))
without_at (e ∷ past) m zero d apart within is =
    ap (λ b. cond (not b) (e ∷ without_past past m) (without_past past m)) (ap (eq_by_cmp text_cmp m) (is d) ∙ text_ties m)
    ∙ without_absent past m (ap (past_stamp past) (sym (is d)) ∙ apart.0)
without_at (e ∷ past) m (suc i) d apart within is = by (tie m e.0) (stamp_at past m i d apart.1 (omega (arith, within)) is) (without_at past m i d apart.1 (omega (arith, within)) is)
  where
    by : Tie m e.0 → past_stamp past m ≡ Some (get_or past i d).1 → without_past past m ≡ remove past i → without_past (e ∷ past) m ≡ remove (e ∷ past) (suc i)
    by (ties same) stamp rest = absurd (not_none (get_or past i d).1 (sym apart.0 ∙ ap (past_stamp past) (sym same) ∙ stamp))
    by (differs other so) stamp rest = ap (λ b. cond (not b) (e ∷ without_past past m) (without_past past m)) so ∙ ap (λ l. e ∷ l) rest

-- ---- ids that are apart

absent_without : (past : Past) (m k : Text) → past_stamp past k ≡ None → past_stamp (without_past past m) k ≡ None
absent_without [] m k none = refl
absent_without (e ∷ past) m k none =
    let there = first_differs e past k none in
    let rest = absent_without past m k there.1 in
    elim (eq_by_cmp text_cmp m e.0) as (λ b. past_stamp (cond (not b) (e ∷ without_past past m) (without_past past m)) k ≡ None) [
      | true ↦ rest
      | false ↦ ap (λ b. cond b (Some e.1) (past_stamp (without_past past m) k)) there.0 ∙ rest
    ]

pub apart_without : (past : Past) (m : Text) → AreApart past → AreApart (without_past past m)
apart_without [] m apart = tt
apart_without (e ∷ past) m apart =
    elim (eq_by_cmp text_cmp m e.0) as (λ b. AreApart (cond (not b) (e ∷ without_past past m) (without_past past m))) [
      | true ↦ apart_without past m apart.1
      | false ↦ (absent_without past m e.0 apart.0, apart_without past m apart.1)
    ]

pub absent_drop : (n : ℕ) (past : Past) (m : Text) → past_stamp past m ≡ None → past_stamp (drop n past) m ≡ None
absent_drop zero past m none = none
absent_drop (suc n) [] m none = refl
absent_drop (suc n) (e ∷ past) m none = absent_drop n past m (first_differs e past m none).1

pub apart_drop : (n : ℕ) (past : Past) → AreApart past → AreApart (drop n past)
apart_drop zero past apart = apart
apart_drop (suc n) [] apart = tt
apart_drop (suc n) (e ∷ past) apart = apart_drop n past apart.1

pub absent_behind : (past : Past) (m k : Text) (stamp : Stamp) → eq_by_cmp text_cmp k m ≡ false → past_stamp past k ≡ None → past_stamp (past ++ (m, stamp) ∷ []) k ≡ None
absent_behind [] m k stamp apart none = ap (λ b. cond b (Some stamp) None) apart
absent_behind (e ∷ past) m k stamp apart none =
    let there = first_differs e past k none in
    ap (λ b. cond b (Some e.1) (past_stamp (past ++ (m, stamp) ∷ []) k)) there.0 ∙ absent_behind past m k stamp apart there.1

pub apart_behind : (past : Past) (m : Text) (stamp : Stamp) → AreApart past → past_stamp past m ≡ None → AreApart (past ++ (m, stamp) ∷ [])
apart_behind [] m stamp apart none = (refl, tt)
apart_behind (e ∷ past) m stamp apart none =
    let there = first_differs e past m none in
    (absent_behind past m e.0 stamp (turned (tie e.0 m) there.0) apart.0, apart_behind past m stamp apart.1 there.1)
  where
    turned : Tie e.0 m → eq_by_cmp text_cmp m e.0 ≡ false → eq_by_cmp text_cmp e.0 m ≡ false
    turned (ties same) is = ap (λ t. eq_by_cmp text_cmp t m) same ∙ ap (eq_by_cmp text_cmp m) (sym same) ∙ is
    turned (differs other is) _ = is

-- ---- fingerprints beside

-- ---- what is kept

-- an id's place says whether it has a stamp
pub is_some-place : (past : Past) (m : Text) (place : Option ℕ) → AreApart past → IsPlaceOf past m place → is_some place ≡ is_some (past_stamp past m)
is_some-place past m None apart is = ap is_some (sym is)
is_some-place past m (Some i) apart is = ap is_some (sym (stamp_at past m i ([], record { connection = 0; frame = 0 }) apart is.0 is.1))

-- where one is taken out
pub kept_without : (past : Past) (fingerprints : List ℕ) (hasher : RandomState) (m : Text) (i : ℕ) → AreKept past fingerprints hasher → IsPlaceOf past m (Some i)
    → AreKept (remove past i) (remove fingerprints i) hasher
kept_without past fingerprints hasher m i kept at =
    let fewer = length-remove past i at.0 in
    record {
      few = omega (arith, fewer, kept.few);
      apart = subst AreApart (without_at past m i ([], record { connection = 0; frame = 0 }) kept.apart at.0 at.1) (apart_without past m kept.apart);
      beside = ap (λ l. remove l i) kept.beside ∙ map-remove (λ e. fingerprint hasher e.0) past i;
    }

-- there is a place for an id that isn't there
pub record TakesOne (past : Past) (fingerprints : List ℕ) (hasher : RandomState) (m : Text) : Type 0 where
  pub kept : AreKept past fingerprints hasher
  pub absent : past_stamp past m ≡ None
  pub place : length past < MOST_PAST_MEMBERS

pub takes_one_without_oldest : (past : Past) (fingerprints : List ℕ) (hasher : RandomState) (m : Text) → AreKept past fingerprints hasher → past_stamp past m ≡ None
    → TakesOne (drop 1 past) (drop 1 fingerprints) hasher m
takes_one_without_oldest [] fingerprints hasher m kept none =
    record { kept = record { few = omega arith; apart = tt; beside = ap (drop 1) kept.beside }; absent = refl; place = omega arith }
takes_one_without_oldest (e ∷ past) fingerprints hasher m kept none =
    record {
      kept = record { few = omega (arith, kept.few); apart = kept.apart.1; beside = ap (drop 1) kept.beside };
      absent = (first_differs e past m none).1;
      place = omega (arith, kept.few);
    }

-- where one is put last
pub kept_behind : (past : Past) (fingerprints : List ℕ) (hasher : RandomState) (m : Text) (stamp : Stamp) → TakesOne past fingerprints hasher m
    → AreKept (past ++ (m, stamp) ∷ []) (fingerprints ++ fingerprint hasher m ∷ []) hasher
kept_behind past fingerprints hasher m stamp takes =
    let longer = length-append past ((m, stamp) ∷ []) in
    record {
      few = omega (arith, longer, takes.place);
      apart = apart_behind past m stamp takes.kept.apart takes.absent;
      beside = ap (λ l. l ++ fingerprint hasher m ∷ []) takes.kept.beside ∙ sym (map-append (λ e. fingerprint hasher e.0) past ((m, stamp) ∷ []));
    }
