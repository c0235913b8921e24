-- There is a target, over the topics of an image.
use Rattle.std.proofs.Common.{◌≡◌, ℕ, zero, suc, ◌<◌, ◌+◌, ℤ, pos, negsuc, Bool, true, false, cond, List, [], ◌∷◌, map, length, get_or, refl, sym, ap, ◌∙◌, arith, inl, inr, Option, Some, None}
use Rattle.std.specs.declared.cmp.Ordering.{Ordering}
use Rattle.std.specs.declared.cmp.Ordering.TheVariants.{Less, Equal, Greater}
use Rattle.std.specs.Cmp.{IsTotalOrder}
use Rattle.std.specs.FinMap as finite
use Rattle.std.specs.List.{slice_get}
use Rattle.std.specs.List.Sorted.{IsPermutation, IsSorted}
use Rattle.std.specs.Option.{option_map}
use Rattle.std.specs.Ordering.{is_lt, ordering_reverse}
use Rattle.std.proofs.lemmas.List.Sorted.{IsPermutation-append, IsPermutation-middle, IsPermutation-refl, IsPermutation-sym, IsPermutation-trans}
use Rattle.std.proofs.lemmas.Option.{same_Some}
use Rattle.group_types.specs.declared.assignor_name.AssignorName.{AssignorName}
use Rattle.group_types.specs.declared.assignor_name.AssignorName.TheVariants.{Range, Uniform}
use Rattle.group_types.specs.declared.partition.Partition.{Partition}
use Rattle.group_types.specs.Text.{Text}
use Rattle.group_types.specs.Partition.{partition_cmp}
use Rattle.group_types.specs.Topics.{Topic, Topics}
use Rattle.group_types.specs.Assignors.{IdsAreApart, Subscriber, assignor_of, member_cmp, subscribers_of}
use Rattle.group_types.specs.Owners.{IsRange, IsRangeOwner, Spread, range_place}
use Rattle.group_types.specs.Uniform.{in_partition_order}
use Rattle.group_types.specs.Group.{Records}
use Rattle.group_types.specs.Renewal.{AreMembers, AreOwners, subscriber_of}
use Rattle.group_types.proofs.Indexes.{index_below}
use Rattle.group_types.specs.Images.{AreImageTopics}
use Rattle.range_assign.proofs.Apart.{IdsAreApart-permutation}
use Rattle.range_assign.proofs.MemberOrder.{member_cmp_total}
use Rattle.uniform_assign.proofs.Apart.{AreApart-view}
use Rattle.uniform_assign.proofs.Drawn.{AreApart, AreApart-head, AreApart-tail}
use Rattle.uniform_assign.proofs.Lists.{option_map-from}
use Rattle.uniform_assign.proofs.Owners.{cases_partition, get-insert_other, get-insert_same}
use Rattle.uniform_assign.proofs.PartitionOrder.{IsOfTopic, part_at, part_from}
use Rattle.uniform_assign.proofs.SomeSpread.{uniform_has_a_spread}
use Rattle.group_core.specs.Existence.{TargetsExist}
use Rattle.group_target.proofs.OneOrder.{entries_apart}

-- ---- a spread by who is to own each partition of a list

abbrev Owning : Type 0
Owning = Text × Partition → Option Text

abbrev given_to : Spread → Partition → Option Text → Spread
given_to spread p None = spread
given_to spread p (Some id) = finite.insert spread p id

abbrev dealt_by : Owning → List (Text × Partition) → Spread
dealt_by own [] = finite.empty
dealt_by own (x ∷ xs) = given_to (dealt_by own xs) x.1 (own x)

-- the partition stands in the list, and is to be the member's
record IsDealt (own : Owning) (xs : List (Text × Partition)) (p : Partition) (id : Text) : Type 0 where
  pub place : ℕ
  pub part : Text × Partition
  pub is_part : slice_get xs place ≡ Some part
  pub same : part.1 ≡ p
  pub owned : own part ≡ Some id

module _ (own : Owning) where
  dealt_later : (x : Text × Partition) (xs : List (Text × Partition)) (p : Partition) (id : Text) → IsDealt own xs p id → IsDealt own (x ∷ xs) p id
  dealt_later x xs p id is = record { place = suc is.place; part = is.part; is_part = is.is_part; same = is.same; owned = is.owned }

  dealt_from : (xs : List (Text × Partition)) (p : Partition) (id : Text) → finite.get (dealt_by own xs) p ≡ Some id → IsDealt own xs p id
  dealt_from [] p id is = let none = finite.get-empty {X = Text} partition_cmp p in cc
  dealt_from (x ∷ xs) p id is =
      elim (own x) as (λ o. own x ≡ o → finite.get (given_to (dealt_by own xs) x.1 o) p ≡ Some id → IsDealt own (x ∷ xs) p id) [
        | None ↦ λ none found. dealt_later x xs p id (dealt_from xs p id found)
        | Some m ↦ λ owned found. elim (cases_partition p x.1) [
          | inl same ↦
              let is_m : m ≡ id = same_Some m id (sym (get-insert_same (dealt_by own xs) x.1 p m same) ∙ found) in
              record { place = 0; part = x; is_part = refl; same = sym same; owned = owned ∙ ap Some is_m }
          | inr other ↦ dealt_later x xs p id (dealt_from xs p id (sym (get-insert_other (dealt_by own xs) x.1 p m other) ∙ found))
        ]
      ] refl is

  given_same : (spread : Spread) (p q : Partition) (id : Text) (o : Option Text) → o ≡ Some id → q ≡ p → finite.get (given_to spread p o) q ≡ Some id
  given_same spread p q id o owned same = ap (λ o. finite.get (given_to spread p o) q) owned ∙ get-insert_same spread p q id same

  given_other : (spread : Spread) (p q : Partition) (o : Option Text) → (q ≡ p → ⊥) → finite.get (given_to spread p o) q ≡ finite.get spread q
  given_other spread p q None apart = refl
  given_other spread p q (Some m) apart = get-insert_other spread p q m apart

  dealt_to : (xs : List (Text × Partition)) → AreApart xs → (k : ℕ) (x : Text × Partition) (p : Partition) (id : Text) → slice_get xs k ≡ Some x → x.1 ≡ p → own x ≡ Some id
      → finite.get (dealt_by own xs) p ≡ Some id
  dealt_to [] apart k x p id is same owned = cc
  dealt_to (y ∷ ys) apart zero x p id is same owned =
      let here : y ≡ x = same_Some y x is in
      given_same (dealt_by own ys) y.1 p id (own y) (ap own here ∙ owned) (sym (ap (λ z. z.1) here ∙ same))
  dealt_to (y ∷ ys) apart (suc k) x p id is same owned =
      given_other (dealt_by own ys) y.1 p (own y) (λ tie. AreApart-head y ys apart k x is (sym (same ∙ tie)))
      ∙ dealt_to ys (AreApart-tail y ys apart) k x p id is same owned

-- ---- range

module _ (view : Topics) (subs : List Subscriber) where
  abbrev owner_at : Text → Topic → ℕ → Option Text
  owner_at name topic i = option_map (λ (m : Subscriber). m.id) (slice_get (subscribers_of subs name) (range_place topic.count (length (subscribers_of subs name)) i))

  abbrev owner_of_index : Text → Option Topic → ℤ → Option Text
  owner_of_index name None z = None
  owner_of_index name (Some topic) (pos i) = owner_at name topic i
  owner_of_index name (Some topic) (negsuc i) = None

  -- the owner of a partition of the topic with this name
  abbrev owner_under_range : Owning
  owner_under_range x = owner_of_index x.0 (finite.get view x.0) x.1.index

  abbrev dealt : Spread
  dealt = dealt_by owner_under_range (in_partition_order view)

  from_dealt : (p : Partition) (id : Text) → IsDealt owner_under_range (in_partition_order view) p id → IsRangeOwner view subs p id
  from_dealt p id is =
      let of : IsOfTopic view is.part = part_from view is.place is.part is.is_part in
      let known : owner_at is.part.0 of.topic of.index ≡ Some id = sym (λ i. owner_of_index is.part.0 (of.of_view i) (of.is_index i)) ∙ is.owned in
      let (owner, there, same_id) = option_map-from (λ (m : Subscriber). m.id) (slice_get (subscribers_of subs is.part.0) (range_place of.topic.count (length (subscribers_of subs is.part.0)) of.index)) id known in
      record {
        name = is.part.0;
        topic = of.topic;
        of_view = of.of_view;
        same_id = ap (λ (q : Partition). q.topic) (sym is.same) ∙ of.same_id;
        index = of.index;
        is_index = ap (λ (q : Partition). q.index) (sym is.same) ∙ of.is_index;
        below = of.below;
        owner = owner;
        place = there;
        same_owner = same_id;
      }

  to_dealt : AreImageTopics view → (p : Partition) (id : Text) → IsRangeOwner view subs p id → finite.get dealt p ≡ Some id
  to_dealt image p id is =
      let (k, there) = part_at view is.name p is.topic is.of_view is.same_id (index_below p.index is.index is.topic.count is.is_index is.below) in
      let owned : owner_of_index is.name (finite.get view is.name) p.index ≡ Some id =
      (λ i. owner_of_index is.name (is.of_view i) (is.is_index i)) ∙ ap (option_map (λ (m : Subscriber). m.id)) is.place ∙ ap Some is.same_owner in
      dealt_to owner_under_range (in_partition_order view) (AreApart-view view image) k (is.name, p) p id there refl owned

  range_has_a_spread : AreImageTopics view → (spread : Spread) × IsRange view subs spread
  range_has_a_spread image = (dealt, λ p id. (λ is. from_dealt p id (dealt_from owner_under_range (in_partition_order view) p id is), λ is. to_dealt image p id is))

-- ---- the members in their order

module _ {X : Type 0} (cmp : X → X → Ordering) (total : IsTotalOrder cmp) where
  abbrev is_below : X → X → Bool
  is_below x y = is_lt (cmp x y)

  -- in its place among those that are in order
  abbrev placed : X → List X → List X
  placed x [] = x ∷ []
  placed x (y ∷ ys) = cond (is_below y x) (y ∷ placed x ys) (x ∷ y ∷ ys)

  abbrev in_order_of : List X → List X
  in_order_of [] = []
  in_order_of (x ∷ xs) = placed x (in_order_of xs)

  two_turned : (x y : X) (ys : List X) → IsPermutation (x ∷ y ∷ ys) (y ∷ x ∷ ys)
  two_turned x y ys = IsPermutation-sym (y ∷ x ∷ ys) (x ∷ y ∷ ys) (IsPermutation-middle (y ∷ []) x ys)

  behind : (x : X) (xs ys : List X) → IsPermutation xs ys → IsPermutation (x ∷ xs) (x ∷ ys)
  behind x xs ys moves = IsPermutation-append (x ∷ []) (x ∷ []) xs ys (IsPermutation-refl (x ∷ [])) moves

  placed-IsPermutation : (x : X) (ys : List X) → IsPermutation (x ∷ ys) (placed x ys)
  placed-IsPermutation x [] = IsPermutation-refl (x ∷ [])
  placed-IsPermutation x (y ∷ ys) =
      elim (is_below y x) as (λ b. IsPermutation (x ∷ y ∷ ys) (cond b (y ∷ placed x ys) (x ∷ y ∷ ys))) [
        | true ↦ IsPermutation-trans (x ∷ y ∷ ys) (y ∷ x ∷ ys) (y ∷ placed x ys) (two_turned x y ys) (behind y (x ∷ ys) (placed x ys) (placed-IsPermutation x ys))
        | false ↦ IsPermutation-refl (x ∷ y ∷ ys)
      ]

  in_order-IsPermutation : (xs : List X) → IsPermutation xs (in_order_of xs)
  in_order-IsPermutation [] = IsPermutation-refl []
  in_order-IsPermutation (x ∷ xs) =
      IsPermutation-trans (x ∷ xs) (x ∷ in_order_of xs) (placed x (in_order_of xs)) (behind x xs (in_order_of xs) (in_order-IsPermutation xs)) (placed-IsPermutation x (in_order_of xs))

  -- none of the list's first is below the element
  abbrev Leads : X → List X → Type 0
  Leads x [] = Unit {0}
  Leads x (y ∷ ys) = is_below y x ≡ false

  abbrev Ascends : List X → Type 0
  Ascends [] = Unit {0}
  Ascends (x ∷ xs) = Leads x xs × Ascends xs

  not_above : (x y : X) → is_below y x ≡ true → is_below x y ≡ false
  not_above x y below = by (cmp y x) (total.antisymm x y) below
    where
      by : (o : Ordering) → cmp x y ≡ ordering_reverse o → is_lt o ≡ true → is_below x y ≡ false
      by Less same below = ap is_lt same
      by Equal same below = cc
      by Greater same below = cc

  Leads-placed : (y x : X) (ys : List X) → is_below x y ≡ false → Leads y ys → Leads y (placed x ys)
  Leads-placed y x [] not_below leads = not_below
  Leads-placed y x (z ∷ zs) not_below leads =
      elim (is_below z x) as (λ b. Leads y (cond b (z ∷ placed x zs) (x ∷ z ∷ zs))) [ true ↦ leads | false ↦ not_below ]

  Ascends-placed : (x : X) (ys : List X) → Ascends ys → Ascends (placed x ys)
  Ascends-placed x [] ascends = (tt, tt)
  Ascends-placed x (y ∷ ys) ascends =
      elim (is_below y x) as (λ b. is_below y x ≡ b → Ascends (cond b (y ∷ placed x ys) (x ∷ y ∷ ys))) [
        | true ↦ λ below. (Leads-placed y x ys (not_above x y below) ascends.0, Ascends-placed x ys ascends.1)
        | false ↦ λ above. (above, ascends)
      ] refl

  in_order-Ascends : (xs : List X) → Ascends (in_order_of xs)
  in_order-Ascends [] = tt
  in_order-Ascends (x ∷ xs) = Ascends-placed x (in_order_of xs) (in_order-Ascends xs)

  sorted-at : (xs : List X) → Ascends xs → (k n : ℕ) (d : X) → n ≡ suc k → n < length xs → is_below (get_or xs n d) (get_or xs k d) ≡ false
  sorted-at [] ascends k n d next within = absurd (omega arith)
  sorted-at (x ∷ []) ascends k n d next within = absurd (omega arith)
  sorted-at (x ∷ y ∷ ys) ascends zero n d next within = ap (λ m. is_below (get_or (x ∷ y ∷ ys) m d) x) next ∙ ascends.0
  sorted-at (x ∷ y ∷ ys) ascends (suc k) zero d next within = absurd (omega arith)
  sorted-at (x ∷ y ∷ ys) ascends (suc k) (suc n) d next within = sorted-at (y ∷ ys) ascends.1 k n d (omega arith) (omega arith)

  in_order-IsSorted : (xs : List X) → IsSorted cmp (in_order_of xs)
  in_order-IsSorted xs = λ k d low within. sorted-at (in_order_of xs) (in_order-Ascends xs) k (k + 1) d (omega arith) within

-- ---- the target

members_in_order : (records : Records) → (subs : List Subscriber) × AreMembers records subs
members_in_order records =
    let subs : List Subscriber = map subscriber_of (finite.entries records) in
    (in_order_of member_cmp member_cmp_total subs, record { same = in_order-IsPermutation member_cmp member_cmp_total subs; sorted = in_order-IsSorted member_cmp member_cmp_total subs })

owners_exist : (name : AssignorName) (view : Topics) (subs : List Subscriber) (former : Spread) → AreImageTopics view → IdsAreApart subs → (target : Spread) × AreOwners name view subs former target
owners_exist Range view subs former image apart = range_has_a_spread view subs image
owners_exist Uniform view subs former image apart = uniform_has_a_spread view subs former apart

pub targets_exist : TargetsExist
targets_exist records view former image =
    let (subs, members) = members_in_order records in
    let apart : IdsAreApart subs = IdsAreApart-permutation (map subscriber_of (finite.entries records)) subs members.same (entries_apart records) in
    let (target, owners) = owners_exist (assignor_of subs) view subs former image apart in
    (target, (subs, members, owners))
