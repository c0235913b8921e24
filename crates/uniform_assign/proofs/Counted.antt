-- How many partitions a member owns in the spread that a list of owners shows.
use Rattle.std.proofs.Common.{◌≡◌, ◌==◌, ℕ, zero, suc, ◌<◌, ◌≤◌, ◌+◌, Bool, true, false, cond, List, [], ◌∷◌, length, refl, sym, ap, ◌∙◌, arith, Option, Some, None}
use Rattle.std.specs.Cmp.{Equal-is}
use Rattle.std.specs.declared.cmp.Ordering.TheVariants.{Less, Equal, Greater}
use Rattle.std.specs.FinMap as finite
use Rattle.std.specs.FinMap.{entries, find, put}
use Rattle.std.specs.FinMap.Entries.{by_order}
use Rattle.std.specs.List.{count_by, filter, slice_get}
use Rattle.std.specs.Ordering.{eq_by_cmp, is_eq}
use Rattle.std.proofs.lemmas.Bool.Decides.{Decides-eqb}
use Rattle.std.proofs.lemmas.List.{nil_from_length}
use Rattle.std.proofs.lemmas.List.Sums.{sum_by-cons}
use Rattle.std.proofs.lemmas.Option.{same_Some}
use Rattle.group_types.specs.declared.partition.Partition.{Partition}
use Rattle.group_types.specs.Text.{Text, text_cmp}
use Rattle.group_types.specs.Partition.{partition_cmp}
use Rattle.group_types.specs.Assignors.{IdsAreApart, Subscriber}
use Rattle.group_types.specs.Owners.{Spread}
use Rattle.group_types.specs.Uniform.{count}
use Rattle.group_types.proofs.Orders.{partition_cmp_total, text_cmp-IsAntisymmetric, text_cmp-itself}
use Rattle.uniform_assign.specs.Drafts.{drawn, given, is_owner}
use Rattle.uniform_assign.proofs.Drawn.{AreApart, AreApart-head, AreApart-tail, drawn-away}

length_cond : {X : Type 0} (b : Bool) (x : X) (xs : List X) → length (cond b (x ∷ xs) xs) ≡ length xs + cond b 1 0
length_cond true x xs = omega arith
length_cond false x xs = omega arith

-- one more entry
length-filter_put : (test : Partition × Text → Bool) (p : Partition) (id : Text) (es : List (Partition × Text)) → find partition_cmp p es ≡ None
    → length (filter test (put partition_cmp p id es)) ≡ length (filter test es) + cond (test (p, id)) 1 0
length-filter_put test p id [] none = length_cond (test (p, id)) (p, id) []
length-filter_put test p id (e ∷ es) none =
    elim (partition_cmp p e.0) as (λ o. cond (is_eq o) (Some e.1) (find partition_cmp p es) ≡ None
    → length (filter test (by_order o ((p, id) ∷ e ∷ es) ((e.0, id) ∷ es) (e ∷ put partition_cmp p id es))) ≡ length (filter test (e ∷ es)) + cond (test (p, id)) 1 0) [
      | Less ↦ λ later. length_cond (test (p, id)) (p, id) (filter test (e ∷ es))
      | Equal ↦ λ here. cc
      | Greater ↦ λ later.
          let more = length-filter_put test p id es later in
          let before = length_cond (test e) e (filter test es) in
          let after = length_cond (test e) e (filter test (put partition_cmp p id es)) in
          omega arith
    ] none

pub count-insert : (spread : Spread) (p : Partition) (owner id : Text) → finite.get spread p ≡ None → count (finite.insert spread p owner) id ≡ count spread id + cond (eq_by_cmp text_cmp id owner) 1 0
count-insert spread p owner id none =
    ap (λ es. length (filter (λ e. eq_by_cmp text_cmp id e.1) es)) (finite.entries-insert partition_cmp_total spread p owner)
    ∙ length-filter_put (λ e. eq_by_cmp text_cmp id e.1) p owner (entries spread) (sym (finite.get-entries spread p) ∙ none)

count-empty : (id : Text) → count finite.empty id ≡ 0
count-empty id =
    ap (λ es. length (filter (λ e. eq_by_cmp text_cmp id e.1) es)) (nil_from_length (entries {X = Text} {R = partition_cmp} finite.empty) (sym (finite.len-entries {R = partition_cmp} finite.empty) ∙ finite.len-empty partition_cmp Text))

pub same_ids : (subs : List Subscriber) → IdsAreApart subs → (i j : ℕ) (m n : Subscriber) → slice_get subs i ≡ Some m → slice_get subs j ≡ Some n → eq_by_cmp text_cmp n.id m.id ≡ (i == j)
same_ids subs apart i j m n is_m is_n =
    elim (i == j) as (λ b. (i == j) ≡ b → eq_by_cmp text_cmp n.id m.id ≡ b) [
      | true ↦ λ tie.
          let same : m ≡ n = same_Some m n (sym is_m ∙ ap (slice_get subs) ((Decides-eqb i j).0 tie) ∙ is_n) in
          (Equal-is (text_cmp n.id m.id)).1 (ap (λ s. text_cmp n.id s.id) same ∙ text_cmp-itself n.id)
      | false ↦ λ differ. elim (eq_by_cmp text_cmp n.id m.id) as (λ b. eq_by_cmp text_cmp n.id m.id ≡ b → b ≡ false) [
        | true ↦ λ tie.
            let same : n.id ≡ m.id = text_cmp-IsAntisymmetric n.id m.id ((Equal-is (text_cmp n.id m.id)).0 tie) in
            let equal = (Decides-eqb i j).1 (apart i j m n is_m is_n (sym same)) in
            cc
        | false ↦ λ away. refl
      ] refl
    ] refl

-- a member owns as many as there are owners at its place
pub count-drawn : (parts : List (Text × Partition)) (subs : List Subscriber) (owners : List (Option ℕ)) (m : ℕ) (s : Subscriber) → AreApart parts → IdsAreApart subs → length owners ≤ length parts
    → ((k n : ℕ) → slice_get owners k ≡ Some (Some n) → n < length subs) → slice_get subs m ≡ Some s → count (drawn parts subs owners) s.id ≡ count_by (is_owner m) owners
count-drawn [] subs [] m s apart ids long within is_s = count-empty s.id
count-drawn [] subs (o ∷ os) m s apart ids long within is_s = absurd (omega arith)
count-drawn (x ∷ xs) subs [] m s apart ids long within is_s = count-empty s.id
count-drawn (x ∷ xs) subs (None ∷ os) m s apart ids long within is_s =
    let later = count-drawn xs subs os m s (AreApart-tail x xs apart) ids (omega arith) (λ k. within (suc k)) is_s in
    let more = sum_by-cons (λ o. cond (is_owner m o) 1 0) None os in
    omega arith
count-drawn (x ∷ xs) subs (Some n ∷ os) m s apart ids long within is_s =
    let later = count-drawn xs subs os m s (AreApart-tail x xs apart) ids (omega arith) (λ k. within (suc k)) is_s in
    let more = sum_by-cons (λ o. cond (is_owner m o) 1 0) (Some n) os in
    let low = within 0 n refl in
    elim (slice_get subs n) as (λ o. slice_get subs n ≡ o → count (given (drawn xs subs os) x.1 o) s.id ≡ count_by (is_owner m) (Some n ∷ os)) [
      | None ↦ λ none. absurd (past subs n low none)
      | Some t ↦ λ is_t.
          let here = count-insert (drawn xs subs os) x.1 t.id s.id (drawn-away subs xs os x.1 (AreApart-head x xs apart)) in
          let test : cond {A = ℕ} (eq_by_cmp text_cmp s.id t.id) 1 0 ≡ cond {A = ℕ} (is_owner m (Some n)) 1 0 = ap (λ b. cond b 1 0) (same_ids subs ids n m t s is_t is_s) in
          omega arith
    ] refl
  where
    past : (xs : List Subscriber) (k : ℕ) → k < length xs → slice_get xs k ≡ None → ⊥
    past [] k low none = omega arith
    past (x ∷ xs) zero low none = cc
    past (x ∷ xs) (suc k) low none = past xs k (omega arith) none
