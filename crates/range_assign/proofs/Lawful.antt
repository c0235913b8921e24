-- Owners under range are lawful.
use Rattle.std.proofs.Common.{◌≡◌, ℕ, zero, suc, ◌<◌, true, false, cond, List, [], ◌∷◌, length, get_or, refl, sym, ap, subst, ◌∙◌, arith, Some, None}
use Rattle.std.specs.List.{slice_get}
use Rattle.std.specs.FinMap as finite
use Rattle.std.specs.Option.{MatchOption}
use Rattle.std.proofs.lemmas.Option.{get_or_from_slice_get, same_Some, slice_get_within, slice_get-get_or}
use Rattle.group_types.specs.declared.partition.Partition.{Partition}
use Rattle.group_types.specs.Text.{Text}
use Rattle.group_types.specs.Topics.{Topics}
use Rattle.group_types.specs.Sets.{has}
use Rattle.group_types.specs.Assignors.{Subscriber, subscribers_of}
use Rattle.group_types.specs.Owners.{IsRangeOwner, IsSubscriber, range_place}
use Rattle.group_types.proofs.Indexes.{index_below, index_of}
use Rattle.group_types.specs.Images.{AreImageTopics}
use Rattle.range_assign.specs.Laws.{RangeIsLawful, SubscribedPartitionsHaveAnOwner}
use Rattle.range_assign.proofs.Dealt.{place_of_subscriber, pos_inj}
use Rattle.range_assign.proofs.Places.{range_place-below}

-- a member who subscribes is one of the subscribers
some_subscriber : (subs : List Subscriber) (name : Text) (k : ℕ) (m : Subscriber) → slice_get subs k ≡ Some m → has m.names name ≡ true → 0 < length (subscribers_of subs name)
some_subscriber [] name k m is there = cc
some_subscriber (x ∷ xs) name zero m is there =
    let first : has x.names name ≡ true = ap (λ s. has s.names name) (same_Some x m is) ∙ there in
    subst (λ b. 0 < length (cond b (x ∷ subscribers_of xs name) (subscribers_of xs name))) (sym first) (omega arith)
some_subscriber (x ∷ xs) name (suc k) m is there =
    let later = some_subscriber xs name k m is there in
    elim (has x.names name) as (λ b. 0 < length (cond b (x ∷ subscribers_of xs name) (subscribers_of xs name))) [
      | true ↦ omega arith
      | false ↦ later
    ]

pub owner_of : (view : Topics) (subs : List Subscriber) (p : Partition) (id : Text) → IsSubscriber view subs p id → (owner : Text) × IsRangeOwner view subs p owner
owner_of view subs p id (m, (k, within, is), same, (name, topic, of_view, subscribes, same_id, at)) =
    let index = index_of p.index topic.count at in
    let some = some_subscriber subs name k m (slice_get-get_or subs k m within ∙ ap Some is) subscribes in
    let list = subscribers_of subs name in
    let place = range_place topic.count (length list) index.0 in
    let below : place < length list = range_place-below topic.count (length list) index.0 some index.2 in
    let owner = get_or list place m in (
      owner.id,
      record {
        name = name;
        topic = topic;
        of_view = of_view;
        same_id = same_id;
        index = index.0;
        is_index = index.1;
        below = index.2;
        owner = owner;
        place = slice_get-get_or list place m below;
        same_owner = refl;
      },
    )

pub owner_subscribes : (view : Topics) (subs : List Subscriber) (p : Partition) (id : Text) → IsRangeOwner view subs p id → IsSubscriber view subs p id
owner_subscribes view subs p id owns =
    let m = owns.owner in
    let at = place_of_subscriber subs owns.name _ m owns.place in
    let within = slice_get_within subs at.0 m at.1 in (
      m,
      (at.0, within, get_or_from_slice_get subs at.0 m m at.1),
      owns.same_owner,
      (owns.name, owns.topic, owns.of_view, at.2, owns.same_id, index_below p.index owns.index owns.topic.count owns.is_index owns.below),
    )

pub range_is_lawful : RangeIsLawful
range_is_lawful view subs spread range p =
    elim (finite.get spread p) as (λ o. finite.get spread p ≡ o → MatchOption o ((id : Text) → ¬ IsSubscriber view subs p id) (IsSubscriber view subs p)) [
      | None ↦ λ none id subscribes.
          let owner = owner_of view subs p id subscribes in
          let owned = (range p owner.0).1 owner.1 in
          cc
      | Some id ↦ λ is. owner_subscribes view subs p id ((range p id).0 is)
    ] refl

same_owner : (view : Topics) (subs : List Subscriber) (p : Partition) (a b : Text) → AreImageTopics view → IsRangeOwner view subs p a → IsRangeOwner view subs p b → a ≡ b
same_owner view subs p a b are one two =
    let names : one.name ≡ two.name = are.ids_apart one.name two.name one.topic two.topic one.of_view two.of_view (sym one.same_id ∙ two.same_id) in
    let topics : one.topic ≡ two.topic = same_Some one.topic two.topic (sym one.of_view ∙ ap (finite.get view) names ∙ two.of_view) in
    let indexes : one.index ≡ two.index = pos_inj one.index two.index (sym one.is_index ∙ two.is_index) in
    let owners : one.owner ≡ two.owner =
    same_Some one.owner two.owner (sym one.place
    ∙ (λ i. slice_get (subscribers_of subs (names i)) (range_place (topics i).count (length (subscribers_of subs (names i))) (indexes i)))
    ∙ two.place) in
    sym one.same_owner ∙ ap (λ m. m.id) owners ∙ two.same_owner

pub subscribed_partitions_have_an_owner : SubscribedPartitionsHaveAnOwner
subscribed_partitions_have_an_owner view subs are p id subscribes =
    let owner = owner_of view subs p id subscribes in
    (owner.0, record { owns = owner.1; only = λ other owns. same_owner view subs p other owner.0 are owns owner.1 })
