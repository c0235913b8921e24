-- What the tables have once a cell was written.
use Rattle.std.proofs.Common.{inl, inr, true≢false, ◌≤◌, ◌≡◌, ◌≢◌, ℕ, zero, suc, ◌<◌, ℤ, pos, negsuc, Bool, true, false, cond, ◌&&◌, List, [], ◌∷◌, length, refl, sym, ap, subst, ◌∙◌, arith, Option, Some, None, get_or, set, unwrap_or, nat_lt, is_some, ltb-true}
use Rattle.std.specs.Ordering.{eq_by_cmp, is_eq, int_cmp}
use Rattle.std.specs.Prelude.{IsSome, OnOk, Result, Ok, Err}
use Rattle.std.specs.Cmp.{Equal-is, eq_by_cmp_equiv}
use Rattle.std.specs.Option.{option_map}
use Rattle.std.specs.Map.{lookup}
use Rattle.std.specs.BTreeMap.{is_at}
use Rattle.std.specs.FinMap as finite
use Rattle.std.proofs.lemmas.Bool.Decides.{nat_tests}
use Rattle.std.proofs.lemmas.List.{get_or-set_same, get_or-set_other}
use Rattle.std.proofs.lemmas.Bool.{cases_lt, cases_eq}
use Rattle.std.specs.declared.alloc.Global.{Global}
use Rattle.std.specs.declared.vec.Vec.{Vec}
use Rattle.group_types.specs.declared.partition.Partition.{Partition}
use Rattle.group_types.specs.Text.{Text, text_cmp}
use Rattle.group_types.specs.Partition.{partition_cmp}
use Rattle.group_types.proofs.Orders.{text_cmp_total, text_cmp-IsAntisymmetric, partition_cmp_total, partition_cmp-IsAntisymmetric}
use Rattle.group_reconcile.specs.declared.cell.Cell.{Cell}
use Rattle.group_types.specs.Owners.{IsIndex}
use Rattle.group_reconcile.specs.Tables.{Sizes, TopicCells, cell_at, cells_in, sizes_in, SetsCell, KeepsRoom, size_of}
use Rattle.group_reconcile.proofs.Lookups.{get-cells_in, get-sizes_in, lookup-items, of_topic, eq-partition, index_same, index_less, index_more}
use Rattle.group_reconcile.proofs.Bools.{same_both}

-- the new cells have the given one at an index, and elsewhere what the old ones have
abbrev pub Puts : List (Option Cell) → List (Option Cell) → ℤ → Option Cell → Type 0
Puts old new k cell = (j : ℤ) → cell_at new j ≡ cond (eq_by_cmp int_cmp j k) cell (cell_at old j)

index_other : (m n : ℕ) → m ≢ n → eq_by_cmp int_cmp (pos m) (pos n) ≡ false
index_other m n other =
    elim (cases_lt m n) [
      | inl less ↦ index_less m n less
      | inr more ↦ let above : n < m = omega arith in index_more m n above
    ]

ltb_of : (i n : ℕ) → i < n → nat_lt i n ≡ true
ltb_of i n h = grind (arith, nat_tests)

ltb_not : (i n : ℕ) → n ≤ i → nat_lt i n ≡ false
ltb_not i n h = grind (arith, nat_tests)

set_at : (old : List (Option Cell)) (i n : ℕ) (cell : Option Cell) → i < length old
    → get_or (set old i cell) n None ≡ cond (eq_by_cmp int_cmp (pos n) (pos i)) cell (get_or old n None)
set_at old i n cell within =
    elim (cases_eq n i) [
      | inl same ↦
          ap (λ k. get_or (set old i cell) k None) same
          ∙ get_or-set_same old i cell None within
          ∙ sym (ap (λ b. cond b cell (get_or old n None)) (index_same n i same))
      | inr other ↦
          get_or-set_other old i n cell None other
          ∙ sym (ap (λ b. cond b cell (get_or old n None)) (index_other n i other))
    ]

past : (old : List (Option Cell)) (n : ℕ) → length old ≤ n → get_or old n None ≡ None
past [] n far = refl
past (c ∷ cs) zero far = absurd (omega arith)
past (c ∷ cs) (suc n) far = past cs n (omega arith)

if_within : {A : Type 0} (i n : ℕ) (x y : A) → i < n → cond (nat_lt i n) x y ≡ x
if_within i n x y h = ap (λ b. cond b x y) (ltb_of i n h)

if_past : {A : Type 0} (i n : ℕ) (x y : A) → n ≤ i → cond (nat_lt i n) x y ≡ y
if_past i n x y h = ap (λ b. cond b x y) (ltb_not i n h)

pub puts : (old new : List (Option Cell)) (k : ℤ) (cell : Option Cell) → IsIndex k (length old) → SetsCell old new k cell → Puts old new k cell
puts old new (negsuc i) cell within sets j = absurd (true≢false (sym within))
puts old new (pos i) cell within sets (pos n) =
    ap (λ cs. get_or cs n None) (sets ∙ ap (λ b. cond b (set old i cell) old) within) ∙ set_at old i n cell (ltb-true i (length old) within)
puts old new (pos i) cell within sets (negsuc n) = refl

pub clears : (old new : List (Option Cell)) (k : ℤ) → SetsCell old new k None → Puts old new k None
clears old new (negsuc i) sets (pos n) = ap (λ cs. get_or cs n None) sets
clears old new (negsuc i) sets (negsuc n) = sym (same_both _ None)
clears old new (pos i) sets (negsuc n) = refl
clears old new (pos i) sets (pos n) =
    elim (cases_lt i (length old)) [
      | inl within ↦ ap (λ cs. get_or cs n None) (sets ∙ if_within i (length old) (set old i None) old within) ∙ set_at old i n None within
      | inr far ↦
          ap (λ cs. get_or cs n None) (sets ∙ if_past i (length old) (set old i None) old far)
          ∙ elim (cases_eq n i) [
            | inl same ↦ past old n (omega arith) ∙ sym (ap (λ b. cond b None (get_or old n None)) (index_same n i same))
            | inr other ↦ sym (ap (λ b. cond b None (get_or old n None)) (index_other n i other))
          ]
    ]

module _ (ts us : List TopicCells) (p : Partition) (v w : Vec (Option Cell) Global)
    (updates : (q : Text) → lookup (is_at (text_cmp q)) us ≡ cond (is_eq (text_cmp p.topic q)) (Some w) (lookup (is_at (text_cmp q)) ts))
    (was : lookup (is_at (text_cmp p.topic)) ts ≡ Some v) where
  topic_is : (q : Text) → is_eq (text_cmp p.topic q) ≡ true → p.topic ≡ q
  topic_is q same = text_cmp-IsAntisymmetric p.topic q ((Equal-is (text_cmp p.topic q)).0 same)

  at_topic : (cell : Option Cell) → Puts v.items w.items p.index cell → (q : Partition) (b : Bool) → is_eq (text_cmp p.topic q.topic) ≡ b
      → of_topic (option_map (λ c. c.items) (cond b (Some w) (lookup (is_at (text_cmp q.topic)) ts))) q.index
      ≡ cond (b && eq_by_cmp int_cmp q.index p.index) cell (of_topic (option_map (λ c. c.items) (lookup (is_at (text_cmp q.topic)) ts)) q.index)
  at_topic cell put q true same =
      put q.index
      ∙ ap (cond (eq_by_cmp int_cmp q.index p.index) cell)
      (sym (ap (λ t. of_topic (option_map (λ c. c.items) (lookup (is_at (text_cmp t)) ts)) q.index) (sym (topic_is q.topic same))
      ∙ ap (λ o. of_topic (option_map (λ c. c.items) o) q.index) was))
  at_topic cell put q false same = refl

  found_by : (ts : List TopicCells) (q : Partition)
      → finite.get (cells_in ts) q ≡ of_topic (option_map (λ c. c.items) (lookup (is_at (text_cmp q.topic)) ts)) q.index
  found_by ts q = get-cells_in ts q ∙ ap (λ o. of_topic o q.index) (lookup-items q.topic ts)

  pub get-after : (cell : Option Cell) → Puts v.items w.items p.index cell → (q : Partition)
      → finite.get (cells_in us) q ≡ cond (eq_by_cmp partition_cmp q p) cell (finite.get (cells_in ts) q)
  get-after cell put q =
      found_by us q
      ∙ ap (λ o. of_topic (option_map (λ c. c.items) o) q.index) (updates q.topic)
      ∙ at_topic cell put q (is_eq (text_cmp p.topic q.topic)) refl
      ∙ (λ i. cond ((eq_by_cmp_equiv text_cmp_total).symm p.topic q.topic i && eq_by_cmp int_cmp q.index p.index) cell (sym (found_by ts q) i))
      ∙ ap (λ b. cond b cell (finite.get (cells_in ts) q)) (sym (eq-partition q p))

  pub cells-put : (c : Cell) → Puts v.items w.items p.index (Some c) → cells_in us ≡ finite.insert (cells_in ts) p c
  cells-put c put =
      finite.same_map partition_cmp_total partition_cmp-IsAntisymmetric _ _
      (λ q. get-after (Some c) put q ∙ sym (finite.get-insert partition_cmp_total (cells_in ts) p c q))

  pub cells-clear : Puts v.items w.items p.index None → cells_in us ≡ finite.remove (cells_in ts) p
  cells-clear put =
      finite.same_map partition_cmp_total partition_cmp-IsAntisymmetric _ _
      (λ q. get-after None put q ∙ sym (finite.get-remove partition_cmp_total (cells_in ts) p q))

  length_at : length w.items ≡ length v.items → (q : Text) (b : Bool) → is_eq (text_cmp p.topic q) ≡ b
      → option_map (λ c. length c.items) (cond b (Some w) (lookup (is_at (text_cmp q)) ts)) ≡ option_map (λ c. length c.items) (lookup (is_at (text_cmp q)) ts)
  length_at same q true here =
      ap Some same
      ∙ ap (option_map (λ c. length c.items)) (sym was)
      ∙ ap (λ t. option_map (λ c. length c.items) (lookup (is_at (text_cmp t)) ts)) (topic_is q here)
  length_at same q false here = refl

  pub sizes-same : length w.items ≡ length v.items → sizes_in us ≡ sizes_in ts
  sizes-same same =
      finite.same_map text_cmp_total text_cmp-IsAntisymmetric _ _
      (λ q. get-sizes_in q us ∙ ap (option_map (λ c. length c.items)) (updates q) ∙ length_at same q (is_eq (text_cmp p.topic q)) refl ∙ sym (get-sizes_in q ts))

-- where there is room for a partition, its topic's cells go that far
pub room_at : (ts : List TopicCells) (sizes : Sizes) (p : Partition) (o : Option (Vec (Option Cell) Global)) → sizes_in ts ≡ sizes
    → lookup (is_at (text_cmp p.topic)) ts ≡ o → IsIndex p.index (unwrap_or (finite.get sizes p.topic) 0)
    → IsIndex p.index (unwrap_or (option_map (λ c. length c.items) o) 0)
room_at ts sizes p o is finds room =
    subst (λ n. IsIndex p.index (unwrap_or n 0))
    (ap (λ s. finite.get s p.topic) (sym is) ∙ get-sizes_in p.topic ts ∙ ap (option_map (λ c. length c.items)) finds) room

pub no_room : (k : ℤ) → IsIndex k 0 → ⊥
no_room (pos i) h = let below = ltb-true i 0 h in omega arith
no_room (negsuc i) h = true≢false (sym h)

-- without a table of its topic a partition has no cell
pub cells-absent : (ts : List TopicCells) (p : Partition) → lookup (is_at (text_cmp p.topic)) ts ≡ None → cells_in ts ≡ finite.remove (cells_in ts) p
cells-absent ts p none =
    finite.same_map partition_cmp_total partition_cmp-IsAntisymmetric _ _
    (λ q. at q (eq_by_cmp partition_cmp q p) refl ∙ sym (finite.get-remove partition_cmp_total (cells_in ts) p q))
  where
    here : finite.get (cells_in ts) p ≡ None
    here = get-cells_in ts p ∙ ap (λ o. of_topic o p.index) (lookup-items p.topic ts ∙ ap (option_map (λ c. c.items)) none)

    at : (q : Partition) (b : Bool) → eq_by_cmp partition_cmp q p ≡ b → finite.get (cells_in ts) q ≡ cond b None (finite.get (cells_in ts) q)
    at q true same = ap (finite.get (cells_in ts)) (partition_cmp-IsAntisymmetric q p ((Equal-is (partition_cmp q p)).0 same)) ∙ here
    at q false same = refl

-- no topic has fewer places
sizes_keep : (ts us : List TopicCells) (q : Text) {o : Option (Vec (Option Cell) Global)} → lookup (is_at (text_cmp q)) us ≡ o
    → unwrap_or (option_map (λ c. length c.items) (lookup (is_at (text_cmp q)) ts)) 0 ≤ unwrap_or (option_map (λ c. length c.items) o) 0
    → size_of (sizes_in ts) q ≤ size_of (sizes_in us) q
sizes_keep ts us q is more =
    subst (λ n. n ≤ size_of (sizes_in us) q) (ap (λ o. unwrap_or o 0) (sym (get-sizes_in q ts)))
    (subst (λ n. unwrap_or (option_map (λ (c : Vec (Option Cell) Global). length c.items) (lookup (is_at (text_cmp q)) ts)) 0 ≤ n)
    (ap (λ o. unwrap_or o 0) (sym (get-sizes_in q us ∙ ap (option_map (λ c. length c.items)) is))) more)

module _ (ts us : List TopicCells) (p : Partition) (v w : Vec (Option Cell) Global)
    (updates : (q : Text) → lookup (is_at (text_cmp q)) us ≡ cond (is_eq (text_cmp p.topic q)) (Some w) (lookup (is_at (text_cmp q)) ts))
    (was : lookup (is_at (text_cmp p.topic)) ts ≡ Some v) (same : (j : ℤ) → cell_at w.items j ≡ cell_at v.items j) where
  at_grown : (q : Partition) (b : Bool) → is_eq (text_cmp p.topic q.topic) ≡ b
      → of_topic (option_map (λ c. c.items) (cond b (Some w) (lookup (is_at (text_cmp q.topic)) ts))) q.index
      ≡ of_topic (option_map (λ c. c.items) (lookup (is_at (text_cmp q.topic)) ts)) q.index
  at_grown q true here =
      same q.index
      ∙ sym (ap (λ t. of_topic (option_map (λ c. c.items) (lookup (is_at (text_cmp t)) ts)) q.index) (sym (text_cmp-IsAntisymmetric p.topic q.topic ((Equal-is (text_cmp p.topic q.topic)).0 here)))
      ∙ ap (λ o. of_topic (option_map (λ c. c.items) o) q.index) was)
  at_grown q false here = refl

  pub cells-grown : cells_in us ≡ cells_in ts
  cells-grown =
      finite.same_map partition_cmp_total partition_cmp-IsAntisymmetric _ _
      (λ q. get-cells_in us q ∙ ap (λ o. of_topic o q.index) (lookup-items q.topic us)
      ∙ ap (λ o. of_topic (option_map (λ c. c.items) o) q.index) (updates q.topic)
      ∙ at_grown q (is_eq (text_cmp p.topic q.topic)) refl
      ∙ sym (get-cells_in ts q ∙ ap (λ o. of_topic o q.index) (lookup-items q.topic ts)))

  pub room-grown : IsIndex p.index (length w.items) → IsIndex p.index (unwrap_or (finite.get (sizes_in us) p.topic) 0)
  room-grown far =
      subst (λ n. IsIndex p.index (unwrap_or n 0))
      (sym (get-sizes_in p.topic us ∙ ap (option_map (λ c. length c.items)) (updates p.topic)
      ∙ ap (λ b. option_map (λ (c : Vec (Option Cell) Global). length c.items) (cond b (Some w) (lookup (is_at (text_cmp p.topic)) ts))) ((eq_by_cmp_equiv text_cmp_total).refl p.topic)))
      far

  size_at : length v.items ≤ length w.items → (q : Text) (b : Bool) → is_eq (text_cmp p.topic q) ≡ b
      → unwrap_or (option_map (λ c. length c.items) (lookup (is_at (text_cmp q)) ts)) 0
      ≤ unwrap_or (option_map (λ c. length c.items) (cond b (Some w) (lookup (is_at (text_cmp q)) ts))) 0
  size_at more q true here =
      subst (λ o. unwrap_or (option_map (λ (c : Vec (Option Cell) Global). length c.items) o) 0 ≤ length w.items)
      (sym was ∙ ap (λ t. lookup (is_at (text_cmp t)) ts) (text_cmp-IsAntisymmetric p.topic q ((Equal-is (text_cmp p.topic q)).0 here)))
      more
  size_at more q false here = omega arith

  pub sizes-grown : length v.items ≤ length w.items → KeepsRoom (sizes_in ts) (sizes_in us)
  sizes-grown more q = sizes_keep ts us q (updates q) (size_at more q (is_eq (text_cmp p.topic q)) refl)

-- a topic without a table gets an empty one
module _ (ts us : List TopicCells) (topic : Text) (v : Vec (Option Cell) Global)
    (updates : (q : Text) → lookup (is_at (text_cmp q)) us ≡ cond (is_eq (text_cmp topic q)) (Some v) (lookup (is_at (text_cmp q)) ts))
    (was : lookup (is_at (text_cmp topic)) ts ≡ None) where
  none_at : (q : Text) → is_eq (text_cmp topic q) ≡ true → lookup (is_at (text_cmp q)) ts ≡ None
  none_at q here = ap (λ t. lookup (is_at (text_cmp t)) ts) (sym (text_cmp-IsAntisymmetric topic q ((Equal-is (text_cmp topic q)).0 here))) ∙ was

  no_cell : (k : ℤ) → cell_at [] k ≡ None
  no_cell (pos n) = refl
  no_cell (negsuc n) = refl

  at_opened : v.items ≡ [] → (q : Partition) (b : Bool) → is_eq (text_cmp topic q.topic) ≡ b
      → of_topic (option_map (λ c. c.items) (cond b (Some v) (lookup (is_at (text_cmp q.topic)) ts))) q.index
      ≡ of_topic (option_map (λ c. c.items) (lookup (is_at (text_cmp q.topic)) ts)) q.index
  at_opened empty q true here =
      ap (λ cells. cell_at cells q.index) empty ∙ no_cell q.index
      ∙ sym (ap (λ o. of_topic (option_map (λ (c : Vec (Option Cell) Global). c.items) o) q.index) (none_at q.topic here))
  at_opened empty q false here = refl

  pub cells-opened : v.items ≡ [] → cells_in us ≡ cells_in ts
  cells-opened empty =
      finite.same_map partition_cmp_total partition_cmp-IsAntisymmetric _ _
      (λ q. get-cells_in us q ∙ ap (λ o. of_topic o q.index) (lookup-items q.topic us)
      ∙ ap (λ o. of_topic (option_map (λ c. c.items) o) q.index) (updates q.topic)
      ∙ at_opened empty q (is_eq (text_cmp topic q.topic)) refl
      ∙ sym (get-cells_in ts q ∙ ap (λ o. of_topic o q.index) (lookup-items q.topic ts)))

  size_at_opened : (q : Text) (b : Bool) → is_eq (text_cmp topic q) ≡ b
      → unwrap_or (option_map (λ c. length c.items) (lookup (is_at (text_cmp q)) ts)) 0
      ≤ unwrap_or (option_map (λ c. length c.items) (cond b (Some v) (lookup (is_at (text_cmp q)) ts))) 0
  size_at_opened q true here =
      subst (λ o. unwrap_or (option_map (λ (c : Vec (Option Cell) Global). length c.items) o) 0 ≤ length v.items) (sym (none_at q here)) (omega arith)
  size_at_opened q false here = omega arith

  pub sizes-opened : KeepsRoom (sizes_in ts) (sizes_in us)
  sizes-opened q = sizes_keep ts us q (updates q) (size_at_opened q (is_eq (text_cmp topic q)) refl)

  pub topic-opened : IsSome (finite.get (sizes_in us) topic)
  topic-opened =
      subst {A = Option ℕ} (λ o. IsSome o)
      (sym (get-sizes_in topic us ∙ ap (option_map (λ c. length c.items)) (updates topic)
      ∙ ap (λ b. option_map (λ (c : Vec (Option Cell) Global). length c.items) (cond b (Some v) (lookup (is_at (text_cmp topic)) ts))) ((eq_by_cmp_equiv text_cmp_total).refl topic)))
      refl

pub none_of_absent : {A : Type 0} (o : Option A) → is_some o ≡ false → o ≡ None
none_of_absent None absent = refl
none_of_absent (Some x) absent = absurd (true≢false absent)

pub topic-there : (ts : List TopicCells) (topic : Text) → is_some (lookup (is_at (text_cmp topic)) ts) ≡ true → IsSome (finite.get (sizes_in ts) topic)
topic-there ts topic there = subst {A = Option ℕ} (λ o. IsSome o) (sym (get-sizes_in topic ts)) (there_is (lookup (is_at (text_cmp topic)) ts) there)
  where
    there_is : (o : Option (Vec (Option Cell) Global)) → is_some o ≡ true → IsSome (option_map (λ c. length c.items) o)
    there_is (Some v) there = refl
    there_is None there = absurd (true≢false (sym there))

pub no_topic : (ts : List TopicCells) (sizes : Sizes) (topic : Text) → sizes_in ts ≡ sizes → lookup (is_at (text_cmp topic)) ts ≡ None → IsSome (finite.get sizes topic) → ⊥
no_topic ts sizes topic is none some =
    let absent : finite.get sizes topic ≡ None = ap (λ s. finite.get s topic) (sym is) ∙ get-sizes_in topic ts ∙ ap (option_map (λ c. length c.items)) none in
    let never : IsSome {T = ℕ} None = subst {A = Option ℕ} (λ o. IsSome o) absent some in
    cc

pub on_ok : {T E : Type 0} {P Q : Type 0} (r : Result T E) → (P → Q) → OnOk r P → OnOk r Q
on_ok (Ok x) f h = f h
on_ok (Err e) f h = h
