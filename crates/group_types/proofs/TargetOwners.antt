-- The owners of a target are members, and what they own is of the view.
use Rattle.std.proofs.Common.{◌≡◌, ℕ, ◌<◌, ◌+◌, true, false, cond, List, [], ◌∷◌, get_or, map, pos, Some, None, is_some, IsTrue, refl, sym, ap, subst, ◌∙◌, arith}
use Rattle.std.specs.List.{All, AllByRecursion, flat_map, range_with_len, slice_get}
use Rattle.std.specs.Option.{MatchOption}
use Rattle.std.specs.Ordering.{eq_by_cmp}
use Rattle.std.specs.Cmp.{Equal-is}
use Rattle.std.specs.FinMap as finite
use Rattle.std.proofs.lemmas.List.Elements.{All-append, All-contains, All-filter, All-from_get_or, All-from_recursion, All-map, All-nil, recursion_from_All}
use Rattle.std.proofs.lemmas.List.FromFn.{get_or-range_with_len, length-range_with_len}
use Rattle.std.proofs.lemmas.List.Sorted.{All-permutation}
use Rattle.std.proofs.lemmas.Option.{get_or_from_slice_get, slice_get_within}
use Rattle.group_types.specs.declared.assignor_name.AssignorName.{AssignorName}
use Rattle.group_types.specs.declared.assignor_name.AssignorName.TheVariants.{Range, Uniform}
use Rattle.group_types.specs.declared.partition.Partition.{Partition}
use Rattle.group_types.specs.Text.{Text}
use Rattle.group_types.specs.Sets.{has}
use Rattle.group_types.specs.Partition.{partition_cmp}
use Rattle.group_types.specs.Topics.{Topic, Topics}
use Rattle.group_types.specs.Assignors.{Subscriber, assignor_of, subscribers_of}
use Rattle.group_types.specs.Owners.{IsRangeOwner, IsSubscriber, Spread}
use Rattle.group_types.specs.Uniform.{AreFilled, AreMoves, Fills, GoesTo, in_partition_order, partitions_of}
use Rattle.group_types.specs.Group.{Record, Records, Target}
use Rattle.group_types.specs.Renewal.{AreOwners, IsTarget, subscriber_of}
use Rattle.group_types.specs.Sound.{IsOfView}
use Rattle.group_types.proofs.Orders.{partition_cmp_total, partition_cmp-IsAntisymmetric}
use Rattle.group_types.proofs.Indexes.{index_below}
use Rattle.group_types.proofs.Lookups.{some_is}
use Rattle.group_types.proofs.Entries.{entries_found}

-- ---- elements of lists

-- what holds of all holds of the one at a place
at_place : {X : Type 0} (P : X → Type 0) (xs : List X) (k : ℕ) (x : X) → All P xs → slice_get xs k ≡ Some x → P x
at_place P xs k x all is = All-contains P xs x all (k, slice_get_within xs k x is, get_or_from_slice_get xs k x x is)

-- ---- the members that an assignor sees have records

abbrev HasRecord : Records → Subscriber → Type 0
HasRecord records s = IsTrue (finite.contains_key records s.id)

all_records : (records : Records) (es : List (Text × Record)) → AllByRecursion (λ e. finite.get records e.0 ≡ Some e.1) es → AllByRecursion (λ e. HasRecord records (subscriber_of e)) es
all_records records [] there = tt
all_records records (e ∷ es) there = (ap is_some there.0, all_records records es there.1)

-- ---- the partitions of a view

abbrev OfView : Topics → Text × Partition → Type 0
OfView view x = IsOfView view x.1

all_of_topic : (view : Topics) (e : Text × Topic) → finite.get view e.0 ≡ Some e.1 → All (OfView view) (partitions_of e)
all_of_topic view e there =
    All-map (OfView view) part (range_with_len 0 e.1.count)
    (All-from_get_or (λ i. OfView view (part i)) (range_with_len 0 e.1.count) 0 (λ i within.
    let long = length-range_with_len 0 e.1.count in
    let low : i < e.1.count = omega arith in
    let same : get_or (range_with_len 0 e.1.count) i 0 ≡ i = get_or-range_with_len 0 e.1.count i 0 low ∙ (let same : 0 + i ≡ i = omega arith in same) in
    record { name = e.0; topic = e.1; is_topic = there; same_id = refl; index = index_below _ i e.1.count (ap pos same) low }))
  where
    part : ℕ → Text × Partition
    part i = (e.0, record { topic = e.1.id; index = pos i })

all_of_topics : (view : Topics) (es : List (Text × Topic)) → AllByRecursion (λ e. finite.get view e.0 ≡ Some e.1) es → All (OfView view) (flat_map partitions_of es)
all_of_topics view [] there = All-nil (OfView view)
all_of_topics view (e ∷ es) there =
    All-append (OfView view) (partitions_of e) (flat_map partitions_of es) (all_of_topic view e there.0) (all_of_topics view es there.1)

all_of_view : (view : Topics) → All (OfView view) (in_partition_order view)
all_of_view view = all_of_topics view (finite.entries view) (entries_found view)

-- ---- owners that are members, of partitions of the view

abbrev pub OwnersAre : Records → Topics → Spread → Type 0
OwnersAre records view spread =
    (p : Partition) (m : Text) → finite.get spread p ≡ Some m → IsTrue (finite.contains_key records m) × IsOfView view p

module _ (records : Records) (view : Topics) (subs : List Subscriber) (all : All (HasRecord records) subs) where
  takers : (name : Text) → All (HasRecord records) (subscribers_of subs name)
  takers name = All-filter (λ m. has m.names name) (HasRecord records) subs all

  subscriber : (p : Partition) (m : Text) → IsSubscriber view subs p m → IsTrue (finite.contains_key records m) × IsOfView view p
  subscriber p m is = (
    subst (λ k. IsTrue (finite.contains_key records k)) is.2 (All-contains (HasRecord records) subs is.0 all is.1),
    record { name = is.3.0; topic = is.3.1; is_topic = is.3.2; same_id = is.3.4; index = is.3.5 },
  )

  range_owner : (p : Partition) (m : Text) → IsRangeOwner view subs p m → IsTrue (finite.contains_key records m) × IsOfView view p
  range_owner p m owns = (
    subst (λ k. IsTrue (finite.contains_key records k)) owns.same_owner (at_place (HasRecord records) (subscribers_of subs owns.name) _ owns.owner (takers owns.name) owns.place),
    record {
      name = owns.name;
      topic = owns.topic;
      is_topic = owns.of_view;
      same_id = owns.same_id;
      index = index_below p.index owns.index owns.topic.count owns.is_index owns.below;
    },
  )

  -- ---- one more owner

  given : (spread : Spread) (q : Partition) (n : Subscriber) → OwnersAre records view spread → HasRecord records n → IsOfView view q → OwnersAre records view (finite.insert spread q n.id)
  given spread q n are there of p m is =
      elim (eq_by_cmp partition_cmp p q) as (λ b. eq_by_cmp partition_cmp p q ≡ b → cond b (Some n.id) (finite.get spread p) ≡ Some m → IsTrue (finite.contains_key records m) × IsOfView view p) [
        | true ↦ λ so owner. (
          subst (λ k. IsTrue (finite.contains_key records k)) (some_is n.id m owner) there,
          subst (IsOfView view) (sym (partition_cmp-IsAntisymmetric p q ((Equal-is (partition_cmp p q)).0 so))) of,
        )
        | false ↦ λ apart owner. are p m owner
      ] refl (sym (finite.get-insert partition_cmp_total spread q n.id p) ∙ is)

  goes : (spread new : Spread) (ms : List Subscriber) (q : Partition) → OwnersAre records view spread → All (HasRecord records) ms → IsOfView view q → GoesTo spread ms q new → OwnersAre records view new
  goes spread new [] q are there of same = subst (OwnersAre records view) (sym same) are
  goes spread new (m ∷ ms) q are there of (n, fewest, is) =
      subst (OwnersAre records view) (sym is) (given spread q n are (at_place (HasRecord records) (m ∷ ms) fewest.place n there fewest.is_there) of)

  fills : (spread new : Spread) (x : Text × Partition) → OwnersAre records view spread → OfView view x → Fills subs spread x new → OwnersAre records view new
  fills spread new x are of is =
      elim (finite.get spread x.1) as (λ o. MatchOption o (GoesTo spread (subscribers_of subs x.0) x.1 new) (λ _. new ≡ spread) → OwnersAre records view new) [
        | None ↦ λ to. goes spread new (subscribers_of subs x.0) x.1 are (takers x.0) of to
        | Some id ↦ λ same. subst (OwnersAre records view) (sym same) are
      ] is

  filled : (spread new : Spread) (xs : List (Text × Partition)) → OwnersAre records view spread → AllByRecursion (OfView view) xs → AreFilled subs spread xs new → OwnersAre records view new
  filled spread new [] are of same = subst (OwnersAre records view) (sym same) are
  filled spread new (x ∷ xs) are of (next, first, later) = filled next new xs (fills spread next x are of.0 first) of.1 later

  levelled : (spread new : Spread) (steps : List Spread) → OwnersAre records view spread → AreMoves view subs spread steps new → OwnersAre records view new
  levelled spread new [] are same = subst (OwnersAre records view) (sym same) are
  levelled spread new (next ∷ later) are (move, moves) =
      let moved = move.move.moved in
      let there = at_place (HasRecord records) (subscribers_of subs moved.0) move.is_fewest.place move.to (takers moved.0) move.is_fewest.is_there in
      let of = at_place (OfView view) (in_partition_order view) move.place moved (all_of_view view) move.move.is_partition in
      levelled next new later (subst (OwnersAre records view) (sym move.is_new) (given spread moved.1 move.to are there of)) moves

  owners_are : (name : AssignorName) (former target : Spread) → AreOwners name view subs former target → OwnersAre records view target
  owners_are Range former target range = λ p m is. range_owner p m ((range p m).0 is)
  owners_are Uniform former target uniform =
      levelled uniform.filled target uniform.steps
      (filled uniform.kept uniform.filled (in_partition_order view) (λ p m is. subscriber p m ((uniform.is_kept p m).0 is).1)
      (recursion_from_All (OfView view) (in_partition_order view) (all_of_view view)) uniform.are_filled)
      uniform.are_moves

-- the owners of a target
pub target_owners : (records : Records) (view : Topics) (former target : Target) → IsTarget records view former target → OwnersAre records view target
target_owners records view former target (subs, members, owners) =
    owners_are records view subs
    (All-permutation (HasRecord records) (map subscriber_of (finite.entries records)) subs members.same
    (All-map (HasRecord records) subscriber_of (finite.entries records)
    (All-from_recursion _ (finite.entries records) (all_records records (finite.entries records) (entries_found records)))))
    (assignor_of subs) former target owners
