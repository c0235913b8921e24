-- The partitions of a view in partition order, and who subscribes them.
use Rattle.std.proofs.Common.{◌≡◌, ℕ, suc, ◌<◌, true, false, cond, List, [], ◌∷◌, pos, refl, sym, ap, ◌∙◌, Some}
use Rattle.std.specs.Cmp.{Equal-is}
use Rattle.std.specs.FinMap as finite
use Rattle.std.specs.FinMap.{find}
use Rattle.std.specs.List.{range_with_len, slice_get}
use Rattle.std.specs.Ordering.{eq_by_cmp}
use Rattle.std.proofs.lemmas.Option.{get_or_from_slice_get, same_Some, slice_get_within}
use Rattle.group_types.specs.declared.partition.Partition.{Partition}
use Rattle.group_types.specs.Text.{Text, text_cmp}
use Rattle.group_types.specs.Topics.{Topic, Topics}
use Rattle.group_types.specs.Sets.{has}
use Rattle.group_types.specs.Assignors.{Subscriber, subscribers_of}
use Rattle.group_types.specs.Owners.{IsIndex, IsSubscriber}
use Rattle.group_types.specs.Uniform.{in_partition_order, partitions_of}
use Rattle.group_types.proofs.Indexes.{index_below, index_of}
use Rattle.group_types.proofs.Orders.{text_cmp-IsAntisymmetric}
use Rattle.topic_meta.proofs.Places.{get-at}
use Rattle.range_assign.proofs.Dealt.{place_of_subscriber}
use Rattle.uniform_assign.proofs.Lists.{Contains-at, at_Contains, filter-at, flat_map-at, flat_map-from, range-at, range-from, slice_get-map_at, slice_get-map_from}

-- what a look-up finds is an entry
find-at : (es : List (Text × Topic)) (name : Text) (topic : Topic) → find text_cmp name es ≡ Some topic → (t : ℕ) × (slice_get es t ≡ Some (name, topic))
find-at [] name topic is = cc
find-at (e ∷ es) name topic is =
    elim (eq_by_cmp text_cmp name e.0) as (λ b. eq_by_cmp text_cmp name e.0 ≡ b → cond b (Some e.1) (find text_cmp name es) ≡ Some topic → (t : ℕ) × (slice_get (e ∷ es) t ≡ Some (name, topic))) [
      | true ↦ λ tie found.
          let same : name ≡ e.0 = text_cmp-IsAntisymmetric name e.0 ((Equal-is (text_cmp name e.0)).0 tie) in
          (0, λ i. Some (sym same i, same_Some e.1 topic found i))
      | false ↦ λ apart found. let later = find-at es name topic found in (suc later.0, later.1)
    ] refl is

pub topic_at : (view : Topics) (name : Text) (topic : Topic) → finite.get view name ≡ Some topic → (t : ℕ) × (slice_get (finite.entries view) t ≡ Some (name, topic))
topic_at view name topic is = find-at (finite.entries view) name topic (sym (finite.get-entries view name) ∙ is)

pub topic_from : (view : Topics) (t : ℕ) (e : Text × Topic) → slice_get (finite.entries view) t ≡ Some e → finite.get view e.0 ≡ Some e.1
topic_from view t e is =
    let same = get_or_from_slice_get (finite.entries view) t e e is in
    ap (λ x. finite.get view x.0) (sym same) ∙ get-at view t e (slice_get_within (finite.entries view) t e is) ∙ ap (λ x. Some x.1) same

-- the partition with this name is one of the topic that has it
pub record IsOfTopic (view : Topics) (x : Text × Partition) : Type 0 where
  pub topic : Topic
  pub of_view : finite.get view x.0 ≡ Some topic
  pub same_id : x.1.topic ≡ topic.id
  pub index : ℕ
  pub is_index : x.1.index ≡ pos index
  pub below : index < topic.count

pub part_from : (view : Topics) (k : ℕ) (x : Text × Partition) → slice_get (in_partition_order view) k ≡ Some x → IsOfTopic view x
part_from view k x is =
    let (t, e, i, is_e, is_x) = flat_map-from partitions_of (finite.entries view) k x is in
    let (j, is_j, same) = slice_get-map_from (λ n. (e.0, record { topic = e.1.id; index = pos n })) (range_with_len 0 e.1.count) i x is_x in
    record {
      topic = e.1;
      of_view = ap (λ y. finite.get view y.0) (sym same) ∙ topic_from view t e is_e;
      same_id = ap (λ y. y.1.topic) (sym same);
      index = j;
      is_index = ap (λ y. y.1.index) (sym same);
      below = (range-from e.1.count i j is_j).1;
    }

pub part_at : (view : Topics) (name : Text) (p : Partition) (topic : Topic) → finite.get view name ≡ Some topic → p.topic ≡ topic.id → IsIndex p.index topic.count
    → (k : ℕ) × (slice_get (in_partition_order view) k ≡ Some (name, p))
part_at view name p topic of_view same_id is_index =
    let (t, is_t) = topic_at view name topic of_view in
    let (i, same_index, below) = index_of p.index topic.count is_index in
    let same : ◌≡◌ {A = Text × Partition} (name, record { topic = topic.id; index = pos i }) (name, p) = λ k. (name, record { topic = sym same_id k; index = sym same_index k }) in
    flat_map-at partitions_of (finite.entries view) t i (name, topic) (name, p) is_t
    (slice_get-map_at (λ n. (name, record { topic = topic.id; index = pos n })) (range_with_len 0 topic.count) i i (range-at topic.count i below) ∙ ap Some same)

-- ---- subscribers

-- a member at a place that subscribes the topic with a name
pub record IsTaker (subs : List Subscriber) (name : Text) (m : Subscriber) : Type 0 where
  pub place : ℕ
  pub is_there : slice_get subs place ≡ Some m
  pub subscribes : has m.names name ≡ true

pub taker_from : (subs : List Subscriber) (name : Text) (k : ℕ) (m : Subscriber) → slice_get (subscribers_of subs name) k ≡ Some m → IsTaker subs name m
taker_from subs name k m is =
    let at = place_of_subscriber subs name k m is in record { place = at.0; is_there = at.1; subscribes = at.2 }

pub taker_at : (subs : List Subscriber) (name : Text) (m : Subscriber) → IsTaker subs name m → (k : ℕ) × (slice_get (subscribers_of subs name) k ≡ Some m)
taker_at subs name m taker = filter-at (λ s. has s.names name) subs taker.place m taker.is_there taker.subscribes

-- whoever takes a partition of the topic with this name subscribes it
pub taker_subscribes : (view : Topics) (subs : List Subscriber) (x : Text × Partition) (m : Subscriber) → IsOfTopic view x → IsTaker subs x.0 m → IsSubscriber view subs x.1 m.id
taker_subscribes view subs x m of_x taker = (
  m,
  Contains-at subs taker.place m taker.is_there,
  refl,
  (x.0, of_x.topic, of_x.of_view, taker.subscribes, of_x.same_id, index_below x.1.index of_x.index of_x.topic.count of_x.is_index of_x.below),
)

-- a subscribed partition with the place where it is, and the subscriber among the takers
pub record IsTaken (view : Topics) (subs : List Subscriber) (p : Partition) (id : Text) : Type 0 where
  pub name : Text
  pub place : ℕ
  pub is_there : slice_get (in_partition_order view) place ≡ Some (name, p)
  pub member : Subscriber
  pub same_id : member.id ≡ id
  pub taker : IsTaker subs name member

pub taken_from : (view : Topics) (subs : List Subscriber) (p : Partition) (id : Text) → IsSubscriber view subs p id → IsTaken view subs p id
taken_from view subs p id (m, among, same, (name, topic, of_view, subscribes, same_id, index)) =
    let (k, is_k) = part_at view name p topic of_view same_id index in
    let (at, is_at) = at_Contains subs m among in
    record { name = name; place = k; is_there = is_k; member = m; same_id = same; taker = record { place = at; is_there = is_at; subscribes = subscribes } }
