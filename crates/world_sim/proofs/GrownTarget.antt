-- A target under range grows by a newcomer's partition, and nobody else's owner changes.
use Rattle.std.proofs.Common.{◌≡◌, ◌≢◌, ℕ, zero, suc, ◌<◌, pos, Bool, true, false, cond, List, [], ◌∷◌, ◌++◌, length, slice_get, Some, None, refl, sym, ap, subst, ◌∙◌, append-nil, arith}
use Rattle.std.specs.Ordering.{eq_by_cmp}
use Rattle.std.specs.Cmp.{Equal-is}
use Rattle.std.specs.FinMap as finite
use Rattle.std.proofs.lemmas.List.Elements.{filter-append}
use Rattle.group_types.specs.declared.partition.Partition.{Partition}
use Rattle.group_types.specs.Text.{Text, text_cmp}
use Rattle.group_types.specs.Sets.{has}
use Rattle.group_types.specs.Partition.{partition_cmp}
use Rattle.group_types.specs.Topics.{Topic, Topics}
use Rattle.group_types.specs.Assignors.{Subscriber, subscribers_of}
use Rattle.group_types.specs.Owners.{IsRange, IsRangeOwner, Spread, range_place}
use Rattle.group_types.proofs.BoolLemmas.{or_none}
use Rattle.group_types.proofs.Lookups.{Tie, ties, differs, not_none, some_is, text_ties, tie}
use Rattle.group_types.proofs.Orders.{text_cmp_total, partition_cmp_total, partition_cmp-IsAntisymmetric}
use Rattle.group_types.proofs.SetLemmas.{has-of_list}
use Rattle.group_core.proofs.Single.{get-inserted}
use Rattle.world_sim.proofs.Newcomers.{Newcomer, id_of, newest, partition_of, topic_of}

-- the newcomer's topic isn't in the view yet, and nobody subscribes it
pub record IsNewTo (x : Newcomer) (view : Topics) (subs : List Subscriber) : Type 0 where
  pub name : finite.get view x.name ≡ None
  pub topic : (name : Text) (topic : Topic) → finite.get view name ≡ Some topic → topic.id ≢ x.topic
  pub nobody : subscribers_of subs x.name ≡ []

pub apart_partitions : (p q : Partition) → p ≢ q → eq_by_cmp partition_cmp p q ≡ false
apart_partitions p q differ = by (eq_by_cmp partition_cmp p q) refl
  where
    by : (b : Bool) → eq_by_cmp partition_cmp p q ≡ b → b ≡ false
    by true same = absurd (differ (partition_cmp-IsAntisymmetric p q ((Equal-is (partition_cmp p q)).0 same)))
    by false apart = refl

-- it subscribes its topic alone
pub names_own : (x : Newcomer) (name : Text) → has (newest x).names name ≡ eq_by_cmp text_cmp name x.name
names_own x name = has-of_list text_cmp_total (x.name ∷ []) name ∙ or_none (eq_by_cmp text_cmp name x.name)

-- ---- who subscribes what

abbrev Grown : Newcomer → List Subscriber → List Subscriber
Grown x subs = subs ++ newest x ∷ []

with_newest : (x : Newcomer) (subs : List Subscriber) (name : Text)
    → subscribers_of (Grown x subs) name ≡ subscribers_of subs name ++ cond (eq_by_cmp text_cmp name x.name) (newest x ∷ []) []
with_newest x subs name =
    filter-append (λ (m : Subscriber). has m.names name) subs (newest x ∷ [])
    ∙ ap (λ b. subscribers_of subs name ++ cond b (newest x ∷ []) []) (names_own x name)

own_subscribers : (x : Newcomer) (subs : List Subscriber) → subscribers_of subs x.name ≡ [] → subscribers_of (Grown x subs) x.name ≡ newest x ∷ []
own_subscribers x subs nobody = with_newest x subs x.name ∙ (λ i. nobody i ++ cond (text_ties x.name i) (newest x ∷ []) [])

other_subscribers : (x : Newcomer) (subs : List Subscriber) (name : Text) → eq_by_cmp text_cmp name x.name ≡ false
    → subscribers_of (Grown x subs) name ≡ subscribers_of subs name
other_subscribers x subs name apart =
    with_newest x subs name ∙ ap (λ b. subscribers_of subs name ++ cond b (newest x ∷ []) []) apart ∙ append-nil (subscribers_of subs name)

lone : (a b : Subscriber) (k : ℕ) → slice_get (a ∷ []) k ≡ Some b → b ≡ a
lone a b zero is = sym (some_is a b is)
lone a b (suc k) is = absurd (not_none b is)

-- ---- the owners

module _ (x : Newcomer) (view : Topics) (subs : List Subscriber) (new : IsNewTo x view subs) where
  in_view : (name : Text) → finite.get (finite.insert view x.name (topic_of x)) name ≡ cond (eq_by_cmp text_cmp name x.name) (Some (topic_of x)) (finite.get view name)
  in_view name = finite.get-insert text_cmp_total view x.name (topic_of x) name

  newest_owns : IsRangeOwner (finite.insert view x.name (topic_of x)) (Grown x subs) (partition_of x) (id_of x)
  newest_owns =
      record {
        name = x.name;
        topic = topic_of x;
        of_view = get-inserted text_cmp_total view x.name (topic_of x);
        same_id = refl;
        index = 0;
        is_index = refl;
        below = omega arith;
        owner = newest x;
        place = ap (λ (ss : List Subscriber). slice_get ss (range_place 1 (length ss) 0)) (own_subscribers x subs new.nobody);
        same_owner = refl;
      }

  -- an owner of before is one afterwards, and the other way round where the topic isn't the newcomer's
  still_owns : (p : Partition) (id : Text) → IsRangeOwner view subs p id → IsRangeOwner (finite.insert view x.name (topic_of x)) (Grown x subs) p id
  still_owns p id o = by (tie o.name x.name)
    where
      by : Tie o.name x.name → IsRangeOwner (finite.insert view x.name (topic_of x)) (Grown x subs) p id
      by (ties same) = absurd (not_none o.topic (sym new.name ∙ ap (finite.get view) (sym same) ∙ o.of_view))
      by (differs other apart) =
          record {
            name = o.name;
            topic = o.topic;
            of_view = in_view o.name ∙ ap (λ b. cond b (Some (topic_of x)) (finite.get view o.name)) apart ∙ o.of_view;
            same_id = o.same_id;
            index = o.index;
            is_index = o.is_index;
            below = o.below;
            owner = o.owner;
            place = ap (λ (ss : List Subscriber). slice_get ss (range_place o.topic.count (length ss) o.index)) (other_subscribers x subs o.name apart) ∙ o.place;
            same_owner = o.same_owner;
          }

  module _ (target : Spread) (range : IsRange view subs target) where
    owner_after : (p : Partition) → finite.get (finite.insert target (partition_of x) (id_of x)) p ≡ cond (eq_by_cmp partition_cmp p (partition_of x)) (Some (id_of x)) (finite.get target p)
    owner_after p = finite.get-insert partition_cmp_total target (partition_of x) (id_of x) p

    is_owner : (p : Partition) (id : Text) → finite.get (finite.insert target (partition_of x) (id_of x)) p ≡ Some id
        → IsRangeOwner (finite.insert view x.name (topic_of x)) (Grown x subs) p id
    is_owner p id is = by (eq_by_cmp partition_cmp p (partition_of x)) refl (sym (owner_after p) ∙ is)
      where
        by : (b : Bool) → eq_by_cmp partition_cmp p (partition_of x) ≡ b → cond b (Some (id_of x)) (finite.get target p) ≡ Some id
            → IsRangeOwner (finite.insert view x.name (topic_of x)) (Grown x subs) p id
        by true same is =
            subst (λ (q : Partition). IsRangeOwner (finite.insert view x.name (topic_of x)) (Grown x subs) q id) (sym (partition_cmp-IsAntisymmetric p (partition_of x) ((Equal-is (partition_cmp p (partition_of x))).0 same)))
            (subst (λ (m : Text). IsRangeOwner (finite.insert view x.name (topic_of x)) (Grown x subs) (partition_of x) m) (some_is (id_of x) id is) newest_owns)
        by false apart is = still_owns p id ((range p id).0 is)

    owned_by : (p : Partition) (id : Text) → IsRangeOwner (finite.insert view x.name (topic_of x)) (Grown x subs) p id
        → finite.get (finite.insert target (partition_of x) (id_of x)) p ≡ Some id
    owned_by p id o = by (tie o.name x.name)
      where
        by : Tie o.name x.name → finite.get (finite.insert target (partition_of x) (id_of x)) p ≡ Some id
        by (ties same) =
            let topic : o.topic ≡ topic_of x = sym (some_is (topic_of x) o.topic (sym (get-inserted text_cmp_total view x.name (topic_of x)) ∙ ap (finite.get (finite.insert view x.name (topic_of x))) (sym same) ∙ o.of_view)) in
            let below : o.index < 1 = subst (λ (t : Topic). o.index < t.count) topic o.below in
            let first : o.index ≡ 0 = omega (arith, below) in
            let is_p : p ≡ partition_of x = λ i. record { topic = (o.same_id ∙ ap (λ (t : Topic). t.id) topic) i; index = (o.is_index ∙ ap pos first) i } in
            let subscribers : subscribers_of (Grown x subs) o.name ≡ newest x ∷ [] = ap (subscribers_of (Grown x subs)) same ∙ own_subscribers x subs new.nobody in
            let owner : o.owner ≡ newest x = lone (newest x) o.owner _ (ap (λ (ss : List Subscriber). slice_get ss (range_place o.topic.count (length (subscribers_of (Grown x subs) o.name)) o.index)) (sym subscribers) ∙ o.place) in
            ap (finite.get (finite.insert target (partition_of x) (id_of x))) is_p
            ∙ get-inserted partition_cmp_total target (partition_of x) (id_of x)
            ∙ ap Some (sym (ap (λ (s : Subscriber). s.id) owner) ∙ o.same_owner)
        by (differs other apart) =
            let there : finite.get view o.name ≡ Some o.topic = sym (in_view o.name ∙ ap (λ b. cond b (Some (topic_of x)) (finite.get view o.name)) apart) ∙ o.of_view in
            let another : p ≢ partition_of x = λ is. new.topic o.name o.topic there (sym o.same_id ∙ ap (λ (q : Partition). q.topic) is) in
            owner_after p
            ∙ ap (λ b. cond b (Some (id_of x)) (finite.get target p)) (apart_partitions p (partition_of x) another)
            ∙ (range p id).1
            (record {
              name = o.name;
              topic = o.topic;
              of_view = there;
              same_id = o.same_id;
              index = o.index;
              is_index = o.is_index;
              below = o.below;
              owner = o.owner;
              place = ap (λ (ss : List Subscriber). slice_get ss (range_place o.topic.count (length ss) o.index)) (sym (other_subscribers x subs o.name apart)) ∙ o.place;
              same_owner = o.same_owner;
            })

    pub is_range : IsRange (finite.insert view x.name (topic_of x)) (Grown x subs) (finite.insert target (partition_of x) (id_of x))
    is_range p id = (is_owner p id, owned_by p id)
