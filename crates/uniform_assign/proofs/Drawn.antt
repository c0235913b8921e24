-- The spread that a list of owners shows, partition by partition.
use Rattle.std.proofs.Common.{◌≡◌, ℕ, zero, suc, ◌<◌, List, [], ◌∷◌, length, set as set_at, refl, sym, ap, ◌∙◌, arith, inl, inr, Option, Some, None}
use Rattle.std.specs.FinMap as finite
use Rattle.std.specs.List.{slice_get}
use Rattle.std.specs.Option.{option_and_then, option_map}
use Rattle.std.proofs.lemmas.Option.{same_Some}
use Rattle.group_types.specs.declared.partition.Partition.{Partition}
use Rattle.group_types.specs.Text.{Text}
use Rattle.group_types.specs.Partition.{partition_cmp}
use Rattle.group_types.specs.Assignors.{Subscriber}
use Rattle.group_types.specs.Owners.{Spread}
use Rattle.uniform_assign.specs.Drafts.{drawn, given}
use Rattle.uniform_assign.proofs.Owners.{cases_partition, get-insert_other, get-insert_same, same_owners}

-- no two places have one partition
abbrev pub AreApart : List (Text × Partition) → Type 0
AreApart parts = (i j : ℕ) (x y : Text × Partition) → slice_get parts i ≡ Some x → slice_get parts j ≡ Some y → x.1 ≡ y.1 → i ≡ j

suc_inj : (a b : ℕ) → suc a ≡ suc b → a ≡ b
suc_inj a b same = cc

pub AreApart-tail : (x : Text × Partition) (xs : List (Text × Partition)) → AreApart (x ∷ xs) → AreApart xs
AreApart-tail x xs apart i j y z is_y is_z same = suc_inj i j (apart (suc i) (suc j) y z is_y is_z same)

pub AreApart-head : (x : Text × Partition) (xs : List (Text × Partition)) → AreApart (x ∷ xs) → (k : ℕ) (y : Text × Partition) → slice_get xs k ≡ Some y → x.1 ≡ y.1 → ⊥
AreApart-head x xs apart k y is_y same = let equal : 0 ≡ suc k = apart 0 (suc k) x y refl is_y same in omega arith

-- the owner's place, and the partition's
pub record IsDrawn (parts : List (Text × Partition)) (subs : List Subscriber) (owners : List (Option ℕ)) (p : Partition) (id : Text) : Type 0 where
  pub place : ℕ
  pub part : Text × Partition
  pub is_part : slice_get parts place ≡ Some part
  pub same : part.1 ≡ p
  pub owner : ℕ
  pub is_owner : slice_get owners place ≡ Some (Some owner)
  pub member : Subscriber
  pub is_member : slice_get subs owner ≡ Some member
  pub same_id : member.id ≡ id

module _ (subs : List Subscriber) where
  drawn-later : (x : Text × Partition) (xs : List (Text × Partition)) (o : Option ℕ) (os : List (Option ℕ)) (p : Partition) (id : Text) → IsDrawn xs subs os p id → IsDrawn (x ∷ xs) subs (o ∷ os) p id
  drawn-later x xs o os p id later = record {
    place = suc later.place;
    part = later.part;
    is_part = later.is_part;
    same = later.same;
    owner = later.owner;
    is_owner = later.is_owner;
    member = later.member;
    is_member = later.is_member;
    same_id = later.same_id;
  }

  pub drawn-from : (parts : List (Text × Partition)) (owners : List (Option ℕ)) (p : Partition) (id : Text) → finite.get (drawn parts subs owners) p ≡ Some id → IsDrawn parts subs owners p id
  drawn-from [] owners p id is = let none = finite.get-empty {X = Text} partition_cmp p in cc
  drawn-from (x ∷ xs) [] p id is = let none = finite.get-empty {X = Text} partition_cmp p in cc
  drawn-from (x ∷ xs) (None ∷ os) p id is = drawn-later x xs None os p id (drawn-from xs os p id is)
  drawn-from (x ∷ xs) (Some m ∷ os) p id is =
      elim (slice_get subs m) as (λ o. slice_get subs m ≡ o → finite.get (given (drawn xs subs os) x.1 o) p ≡ Some id → IsDrawn (x ∷ xs) subs (Some m ∷ os) p id) [
        | None ↦ λ none found. drawn-later x xs (Some m) os p id (drawn-from xs os p id found)
        | Some s ↦ λ here found. elim (cases_partition p x.1) [
          | inl same ↦ record {
            place = 0;
            part = x;
            is_part = refl;
            same = sym same;
            owner = m;
            is_owner = refl;
            member = s;
            is_member = here;
            same_id = same_Some s.id id (sym (get-insert_same (drawn xs subs os) x.1 p s.id same) ∙ found);
          }
          | inr apart ↦ drawn-later x xs (Some m) os p id (drawn-from xs os p id (sym (get-insert_other (drawn xs subs os) x.1 p s.id apart) ∙ found))
        ]
      ] refl is

  -- a partition that is not in the list has no owner
  pub drawn-away : (parts : List (Text × Partition)) (owners : List (Option ℕ)) (p : Partition) → ((k : ℕ) (x : Text × Partition) → slice_get parts k ≡ Some x → p ≡ x.1 → ⊥) → finite.get (drawn parts subs owners) p ≡ None
  drawn-away parts owners p away =
      elim (finite.get (drawn parts subs owners) p) as (λ o. finite.get (drawn parts subs owners) p ≡ o → o ≡ None) [
        | None ↦ λ is. refl
        | Some id ↦ λ is. let found = drawn-from parts owners p id is in absurd (away found.place found.part found.is_part (sym found.same))
      ] refl

  get-given_other : (spread : Spread) (p q : Partition) (o : Option Subscriber) → (q ≡ p → ⊥) → finite.get (given spread p o) q ≡ finite.get spread q
  get-given_other spread p q None apart = refl
  get-given_other spread p q (Some m) apart = get-insert_other spread p q m.id apart

  get-given_same : (spread : Spread) (p : Partition) (o : Option Subscriber) → finite.get spread p ≡ None → finite.get (given spread p o) p ≡ option_map (λ m. m.id) o
  get-given_same spread p None none = none
  get-given_same spread p (Some m) none = get-insert_same spread p p m.id refl

  pub drawn-at : (parts : List (Text × Partition)) (owners : List (Option ℕ)) (k : ℕ) (x : Text × Partition) (o : Option ℕ) → AreApart parts → slice_get parts k ≡ Some x → slice_get owners k ≡ Some o
      → finite.get (drawn parts subs owners) x.1 ≡ option_map (λ m. m.id) (option_and_then (slice_get subs) o)
  drawn-at [] owners k x o apart is_x is_o = cc
  drawn-at (y ∷ ys) [] k x o apart is_x is_o = cc
  drawn-at (y ∷ ys) (a ∷ os) zero x o apart is_x is_o =
      let here = get-given_same (drawn ys subs os) y.1 (option_and_then (slice_get subs) a) (drawn-away ys os y.1 (AreApart-head y ys apart)) in
      ap (λ z. finite.get (drawn (y ∷ ys) subs (a ∷ os)) z.1) (sym (same_Some y x is_x)) ∙ here
      ∙ ap (λ z. option_map (λ m. m.id) (option_and_then (slice_get subs) z)) (same_Some a o is_o)
  drawn-at (y ∷ ys) (a ∷ os) (suc k) x o apart is_x is_o =
      get-given_other (drawn ys subs os) y.1 x.1 (option_and_then (slice_get subs) a) (λ same. AreApart-head y ys apart k x is_x (sym same))
      ∙ drawn-at ys os k x o (AreApart-tail y ys apart) is_x is_o

  pub drawn-owner : (parts : List (Text × Partition)) (owners : List (Option ℕ)) (k : ℕ) (x : Text × Partition) (m : ℕ) (s : Subscriber) → AreApart parts → slice_get parts k ≡ Some x → slice_get owners k ≡ Some (Some m) → slice_get subs m ≡ Some s
      → finite.get (drawn parts subs owners) x.1 ≡ Some s.id
  drawn-owner parts owners k x m s apart is_x is_o is_s = drawn-at parts owners k x (Some m) apart is_x is_o ∙ ap (option_map (λ m. m.id)) is_s

  -- ---- a partition is given

  insert-again : (spread : Spread) (p : Partition) (o : Option Subscriber) (m : Subscriber) → finite.insert spread p m.id ≡ finite.insert (given spread p o) p m.id
  insert-again spread p None m = refl
  insert-again spread p (Some n) m = same_owners _ _ (λ q. elim (cases_partition q p) [
    | inl same ↦ get-insert_same spread p q m.id same ∙ sym (get-insert_same (finite.insert spread p n.id) p q m.id same)
    | inr apart ↦ get-insert_other spread p q m.id apart ∙ sym (get-insert_other (finite.insert spread p n.id) p q m.id apart ∙ get-insert_other spread p q n.id apart)
  ])

  given-insert : (spread : Spread) (p q : Partition) (o : Option Subscriber) (id : Text) → (p ≡ q → ⊥) → given (finite.insert spread q id) p o ≡ finite.insert (given spread p o) q id
  given-insert spread p q None id apart = refl
  given-insert spread p q (Some n) id apart = same_owners _ _ (λ r. elim (cases_partition r p) [
    | inl same ↦
        let other : r ≡ q → ⊥ = λ equal. apart (sym same ∙ equal) in
        get-insert_same (finite.insert spread q id) p r n.id same ∙ sym (get-insert_other (finite.insert spread p n.id) q r id other ∙ get-insert_same spread p r n.id same)
    | inr away ↦ get-insert_other (finite.insert spread q id) p r n.id away ∙ elim (cases_partition r q) [
      | inl same ↦ get-insert_same spread q r id same ∙ sym (get-insert_same (finite.insert spread p n.id) q r id same)
      | inr other ↦ get-insert_other spread q r id other ∙ sym (get-insert_other (finite.insert spread p n.id) q r id other ∙ get-insert_other spread p r n.id away)
    ]
  ])

  pub drawn-set : (parts : List (Text × Partition)) (owners : List (Option ℕ)) (k : ℕ) (x : Text × Partition) (m : ℕ) (s : Subscriber) → AreApart parts → slice_get parts k ≡ Some x → k < length owners → slice_get subs m ≡ Some s
      → drawn parts subs (set_at owners k (Some m)) ≡ finite.insert (drawn parts subs owners) x.1 s.id
  drawn-set [] owners k x m s apart is_x within is_s = cc
  drawn-set (y ∷ ys) [] k x m s apart is_x within is_s = absurd (omega arith)
  drawn-set (y ∷ ys) (a ∷ os) zero x m s apart is_x within is_s =
      ap (given (drawn ys subs os) y.1) is_s
      ∙ insert-again (drawn ys subs os) y.1 (option_and_then (slice_get subs) a) s
      ∙ ap (λ z. finite.insert (drawn (y ∷ ys) subs (a ∷ os)) z.1 s.id) (same_Some y x is_x)
  drawn-set (y ∷ ys) (a ∷ os) (suc k) x m s apart is_x within is_s =
      ap (λ d. given d y.1 (option_and_then (slice_get subs) a)) (drawn-set ys os k x m s (AreApart-tail y ys apart) is_x (omega arith) is_s)
      ∙ given-insert (drawn ys subs os) y.1 x.1 (option_and_then (slice_get subs) a) s.id (AreApart-head y ys apart k x is_x)
