-- The shares of the members under range, one after another.
use Rattle.std.proofs.Common.{◌≡◌, ◌≢◌, ℕ, zero, suc, ◌<◌, ◌≤◌, ◌+◌, Bool, true, false, cond, not, map, List, [], ◌∷◌, ◌++◌, length, take, drop, get_or, pos, refl, sym, ap, subst, ◌∙◌, arith, Some, None, string_bytes, length-append, append_assoc, replicate, true≢false, inl, inr}
use Rattle.std.specs.Cmp.{Equal-is}
use Rattle.std.specs.FinMap as finite
use Rattle.std.specs.FinMap.{entries, find, get}
use Rattle.std.specs.List.{AllPairs, Contains, filter, slice_get}
use Rattle.std.specs.Option.{option_map}
use Rattle.std.specs.Ordering.{eq_by_cmp}
use Rattle.std.proofs.lemmas.Bool.Decides.{Decides-eqb}
use Rattle.std.proofs.lemmas.List.{append-nil, drop_all, nil_from_length, take_all}
use Rattle.std.proofs.lemmas.List.Kept.{AllPairs-filter}
use Rattle.std.proofs.lemmas.List.Elements.{Contains-get_or}
use Rattle.std.proofs.lemmas.Option.{slice_get-map, get_or_from_slice_get, same_Some, slice_get_within, slice_get-get_or}
use Rattle.group_types.specs.declared.partition.Partition.{Partition}
use Rattle.group_types.specs.Text.{Text, text_cmp}
use Rattle.group_types.specs.Topics.{Topic, Topics}
use Rattle.group_types.specs.Sets.{common, has, in_order, is_nothing, nothing, size}
use Rattle.group_types.specs.Owners.{IsRange, IsRangeOwner, range_place}
use Rattle.group_types.proofs.Orders.{partition_cmp-IsAntisymmetric, partition_cmp_total, text_cmp-IsAntisymmetric}
use Rattle.group_types.proofs.SetLemmas.{common-nothing, has-nothing, is_nothing-Decides}
use Rattle.group_types.specs.Partition.{Partitions, partition_cmp}
use Rattle.group_types.specs.Assignors.{Subscriber, IdsAreApart, subscribers_of}
use Rattle.topic_meta.specs.declared.view_topic.ViewTopic.{ViewTopic}
use Rattle.group_types.specs.Images.{AreImageTopics}
use Rattle.topic_meta.specs.Views.{all_named, named}
use Rattle.topic_meta.proofs.Places.{get-topic_at, topic_at-ids_apart}
use Rattle.range_assign.specs.Shares.{AreShares, owned_in, spread_of}
use Rattle.range_assign.specs.Turns.{AddsDealt, AreDealt, IsDealt, IsGiven, IsInTurn, IsRangeShare, counts_of, with_dealt}
use Rattle.range_assign.proofs.Places.{range_place-le}
use Rattle.range_assign.proofs.Spreads.{IsShare-of, get-spread_of, owner_in-has}
use Rattle.range_assign.proofs.Turns.{before_all, counts_of-at, subscribers_of-next, subscribers_of-whole}

-- what is true of the topics' places and of the shares once the first n members have theirs
pub record IsDealing (topics : List ViewTopic) (subs : List Subscriber) (n : ℕ) (places : List ℕ) (shares : List (Text × Partitions)) : Type 0 where
  pub placed : places ≡ counts_of topics (take n subs)
  pub as_many : length shares ≡ n
  pub dealt : (at : ℕ) (share : Text × Partitions) → slice_get shares at ≡ Some share → IsDealt topics subs at share

-- ---- places in a list of subscribers

slice_get-after : {X : Type 0} (xs : List X) (x : X) (ys : List X) → slice_get (xs ++ x ∷ ys) (length xs) ≡ Some x
slice_get-after [] x ys = refl
slice_get-after (a ∷ xs) x ys = slice_get-after xs x ys

-- the subscriber at a place among the members is at the place, among the subscribers, that is the number of those before it
subscriber_at : (subs : List Subscriber) (at : ℕ) (m : Subscriber) (name : Text) → slice_get subs at ≡ Some m → has m.names name ≡ true
    → slice_get (subscribers_of subs name) (length (subscribers_of (take at subs) name)) ≡ Some m
subscriber_at subs at m name here there =
    let whole : subscribers_of subs name ≡ subscribers_of (take at subs) name ++ m ∷ subscribers_of (drop (at + 1) subs) name =
    subscribers_of-whole subs at m here name
    ∙ ap (λ list. list ++ subscribers_of (drop (at + 1) subs) name) (subscribers_of-next subs at m here name ∙ ap (λ b. subscribers_of (take at subs) name ++ cond b (m ∷ []) []) there)
    ∙ append_assoc (subscribers_of (take at subs) name) (m ∷ []) (subscribers_of (drop (at + 1) subs) name) in
    ap (λ list. slice_get list (length (subscribers_of (take at subs) name))) whole
    ∙ slice_get-after (subscribers_of (take at subs) name) m (subscribers_of (drop (at + 1) subs) name)

pub place_of_subscriber : (subs : List Subscriber) (name : Text) (k : ℕ) (m : Subscriber) → slice_get (subscribers_of subs name) k ≡ Some m
    → (at : ℕ) × (slice_get subs at ≡ Some m) × (has m.names name ≡ true) × (length (subscribers_of (take at subs) name) ≡ k)
place_of_subscriber [] name k m is = cc
place_of_subscriber (x ∷ xs) name k m is =
    elim (has x.names name) as (λ b. has x.names name ≡ b → slice_get (cond b (x ∷ subscribers_of xs name) (subscribers_of xs name)) k ≡ Some m
    → (at : ℕ) × (slice_get (x ∷ xs) at ≡ Some m) × (has m.names name ≡ true) × (length (subscribers_of (take at (x ∷ xs)) name) ≡ k)) [
      | true ↦ λ there found.
          elim k as (λ k. slice_get (x ∷ subscribers_of xs name) k ≡ Some m
          → (at : ℕ) × (slice_get (x ∷ xs) at ≡ Some m) × (has m.names name ≡ true) × (length (subscribers_of (take at (x ∷ xs)) name) ≡ k)) [
            | zero ↦ λ found. (0, found, ap (λ s. has s.names name) (sym (same_Some x m found)) ∙ there, refl)
            | suc k ↦ λ found.
                let later = place_of_subscriber xs name k m found in
                (suc later.0, later.1, later.2, ap (λ b. length (cond b (x ∷ subscribers_of (take later.0 xs) name) (subscribers_of (take later.0 xs) name))) there ∙ ap suc later.3)
          ] found
      | false ↦ λ away found.
          let later = place_of_subscriber xs name k m found in
          (suc later.0, later.1, later.2, ap (λ b. length (cond b (x ∷ subscribers_of (take later.0 xs) name) (subscribers_of (take later.0 xs) name))) away ∙ later.3)
    ] refl is

-- of two subscribers, the later one has more before it
subscribers_between : (subs : List Subscriber) (i j : ℕ) (m : Subscriber) (name : Text) → slice_get subs i ≡ Some m → has m.names name ≡ true → i < j
    → length (subscribers_of (take i subs) name) < length (subscribers_of (take j subs) name)
subscribers_between subs i j m name here there rise =
    subst (λ list. length (subscribers_of list name) < length (subscribers_of (take j subs) name)) (shorter subs i j (omega arith))
    (before_all (take j subs) i m (inside subs i j rise ∙ here) name there)
  where
    shorter : (xs : List Subscriber) (i j : ℕ) → i ≤ j → take i (take j xs) ≡ take i xs
    shorter xs zero j low = refl
    shorter xs (suc i) zero low = absurd (omega arith)
    shorter [] (suc i) (suc j) low = refl
    shorter (x ∷ xs) (suc i) (suc j) low = ap (λ rest. x ∷ rest) (shorter xs i j (omega arith))

    inside : (xs : List Subscriber) (i j : ℕ) → i < j → slice_get (take j xs) i ≡ slice_get xs i
    inside xs i zero low = absurd (omega arith)
    inside [] i (suc j) low = refl
    inside (x ∷ xs) zero (suc j) low = refl
    inside (x ∷ xs) (suc i) (suc j) low = inside xs i j (omega arith)

-- ---- the topics of a view

pub pos_inj : (a b : ℕ) → pos a ≡ pos b → a ≡ b
pos_inj a b same = cc

-- what a look-up finds is an entry
find-at : (es : List (Text × Topic)) (name : Text) (topic : Topic) → find text_cmp name es ≡ Some topic → (t : ℕ) × (slice_get es t ≡ Some (name, topic))
find-at [] name topic is = cc
find-at (e ∷ es) name topic is =
    elim (eq_by_cmp text_cmp name e.0) as (λ b. eq_by_cmp text_cmp name e.0 ≡ b → cond b (Some e.1) (find text_cmp name es) ≡ Some topic → (t : ℕ) × (slice_get (e ∷ es) t ≡ Some (name, topic))) [
      | true ↦ λ tie found.
          let same : name ≡ e.0 = text_cmp-IsAntisymmetric name e.0 ((Equal-is (text_cmp name e.0)).0 tie) in
          (0, λ i. Some (sym same i, same_Some e.1 topic found i))
      | false ↦ λ apart found. let later = find-at es name topic found in (suc later.0, later.1)
    ] refl is

module _ (view : Topics) (topics : List ViewTopic) (all : all_named topics ≡ entries view) where
  -- a topic of the view is in its slice
  pub topic_in : (name : Text) (topic : Topic) → get view name ≡ Some topic → (t : ℕ) × (x : ViewTopic) × (slice_get topics t ≡ Some x) × (named x ≡ (name, topic))
  topic_in name topic is =
      let found = find-at (entries view) name topic (sym (finite.get-entries view name) ∙ is) in
      let mapped : option_map named (slice_get topics found.0) ≡ Some (name, topic) =
      sym (slice_get-map named topics found.0) ∙ ap (λ es. slice_get es found.0) all ∙ found.1 in
      elim (slice_get topics found.0) as (λ o. slice_get topics found.0 ≡ o → option_map named o ≡ Some (name, topic) → (t : ℕ) × (x : ViewTopic) × (slice_get topics t ≡ Some x) × (named x ≡ (name, topic))) [
        | None ↦ λ none same. cc
        | Some x ↦ λ here same. (found.0, x, here, same_Some (named x) (name, topic) same)
      ] refl mapped

  -- the view has each topic of its slice
  pub view_has : (t : ℕ) (x : ViewTopic) → slice_get topics t ≡ Some x → get view (string_bytes x.name) ≡ Some record { id = x.id; count = x.count }
  view_has t x is =
      subst (λ y. get view (string_bytes y.name) ≡ Some record { id = y.id; count = y.count }) (get_or_from_slice_get topics t x x is)
      (get-topic_at view topics all t x (slice_get_within topics t x is))

  pub ids_apart : AreImageTopics view → (t u : ℕ) (x y : ViewTopic) → slice_get topics t ≡ Some x → slice_get topics u ≡ Some y → x.id ≡ y.id → t ≡ u
  ids_apart are t u x y is_x is_y same =
      topic_at-ids_apart view topics all are t u x (slice_get_within topics t x is_x) (slice_get_within topics u y is_y)
      (ap (λ z. z.id) (get_or_from_slice_get topics t x x is_x) ∙ same ∙ sym (ap (λ z. z.id) (get_or_from_slice_get topics u y x is_y)))

  -- ---- once every member has its share

  module _ (subs : List Subscriber) (are : AreImageTopics view) (apart : IdsAreApart subs) (shares : List (Text × Partitions)) (as_many : length shares ≡ length subs)
      (dealt : (at : ℕ) (share : Text × Partitions) → slice_get shares at ≡ Some share → IsDealt topics subs at share) where
    member_of : (at : ℕ) (share : Text × Partitions) → slice_get shares at ≡ Some share → (m : Subscriber) × (slice_get subs at ≡ Some m)
    member_of at share is =
        let within = slice_get_within shares at share is in
        member subs at (omega arith)
      where
        member : (xs : List Subscriber) (k : ℕ) → k < length xs → (m : Subscriber) × (slice_get xs k ≡ Some m)
        member [] k within = absurd (omega arith)
        member (x ∷ xs) zero within = (x, refl)
        member (x ∷ xs) (suc k) within = member xs k (omega arith)

    dealt_ids_apart : AllPairs (λ s t. s.0 ≢ t.0) shares
    dealt_ids_apart i j d rise in_j same =
        let s = get_or shares i d in
        let t = get_or shares j d in
        let is_s = slice_get-get_or shares i d (omega arith) in
        let is_t = slice_get-get_or shares j d in_j in
        let m = member_of i s is_s in
        let n = member_of j t is_t in
        let equal = apart i j m.0 n.0 m.1 n.1 (sym ((dealt i s is_s).same_id m.0 m.1) ∙ same ∙ (dealt j t is_t).same_id n.0 n.1) in
        omega arith

    -- no partition comes to two members
    one_turn : (i j : ℕ) (m n : Subscriber) (p : Partition) → i < j → slice_get subs i ≡ Some m
        → IsGiven topics (length topics) subs (take i subs) m p → IsGiven topics (length topics) subs (take j subs) n p → ⊥
    one_turn i j m n p rise is_m (t, x, in_t, is_x, one) (u, y, in_u, is_y, two) =
        let places = ids_apart are t u x y is_x is_y (sym one.same_id ∙ two.same_id) in
        let topic : x ≡ y = same_Some x y (sym is_x ∙ ap (slice_get topics) places ∙ is_y) in
        let index : one.index ≡ two.index = pos_inj one.index two.index (sym one.is_index ∙ two.is_index) in
        let before : length (subscribers_of (take i subs) (string_bytes x.name)) ≡ length (subscribers_of (take j subs) (string_bytes x.name)) =
        sym one.place
        ∙ (λ k. range_place (topic k).count (length (subscribers_of subs (string_bytes (topic k).name))) (index k))
        ∙ two.place ∙ ap (λ z. length (subscribers_of (take j subs) (string_bytes z.name))) (sym topic) in
        let fewer = subscribers_between subs i j m (string_bytes x.name) is_m one.subscribes rise in
        omega arith

    dealt_sets_apart : AllPairs (λ s t. common s.1 t.1 ≡ nothing) shares
    dealt_sets_apart i j d rise in_j =
        let s = get_or shares i d in
        let t = get_or shares j d in
        let is_s = slice_get-get_or shares i d (omega arith) in
        let is_t = slice_get-get_or shares j d in_j in
        let m = member_of i s is_s in
        let n = member_of j t is_t in
        common-nothing partition_cmp_total partition_cmp-IsAntisymmetric s.1 t.1 (λ p there.
        elim (has t.1 p) as (λ b. has t.1 p ≡ b → b ≡ false) [
          | true ↦ λ there_too. absurd (one_turn i j m.0 n.0 p rise m.1 (((dealt i s is_s).set m.0 m.1 p).0 there) (((dealt j t is_t).set n.0 n.1 p).0 there_too))
          | false ↦ λ away. refl
        ] refl)

    pub dealt-AreShares : AreShares shares
    dealt-AreShares = record { ids_apart = dealt_ids_apart; sets_apart = dealt_sets_apart }

    owner_by_turn : (p : Partition) (at : ℕ) (m : Subscriber) → slice_get subs at ≡ Some m → IsGiven topics (length topics) subs (take at subs) m p → IsRangeOwner view subs p m.id
    owner_by_turn p at m here (t, x, in_t, is_x, turn) = record {
      name = string_bytes x.name;
      topic = record { id = x.id; count = x.count };
      of_view = view_has t x is_x;
      same_id = turn.same_id;
      index = turn.index;
      is_index = turn.is_index;
      below = turn.below;
      owner = m;
      place = ap (slice_get (subscribers_of subs (string_bytes x.name))) turn.place ∙ subscriber_at subs at m (string_bytes x.name) here turn.subscribes;
      same_owner = refl;
    }

    share_of_owner : (p : Partition) (id : Text) → IsRangeOwner view subs p id → (s : Text × Partitions) × Contains shares s × (s.0 ≡ id) × (has s.1 p ≡ true)
    share_of_owner p id owns =
        let at = place_of_subscriber subs owns.name _ owns.owner owns.place in
        let in_subs = slice_get_within subs at.0 owns.owner at.1 in
        let s = get_or shares at.0 (id, nothing) in
        let in_shares : at.0 < length shares = omega arith in
        let is_s = slice_get-get_or shares at.0 (id, nothing) in_shares in
        let x = topic_in owns.name owns.topic owns.of_view in
        let same_name : string_bytes x.1.name ≡ owns.name = ap (λ e. e.0) x.3 in
        let same_topic : ◌≡◌ {A = Topic} (record { id = x.1.id; count = x.1.count }) owns.topic = ap (λ e. e.1) x.3 in
        let turn : IsInTurn subs (take at.0 subs) owns.owner x.1 p = record {
          subscribes = ap (has owns.owner.names) same_name ∙ at.2;
          same_id = owns.same_id ∙ sym (ap (λ z. z.id) same_topic);
          index = owns.index;
          is_index = owns.is_index;
          below = let counts = ap (λ z. z.count) same_topic in let low = owns.below in omega arith;
          place = (λ k. range_place (same_topic k).count (length (subscribers_of subs (same_name k))) owns.index) ∙ sym at.3 ∙ ap (λ name. length (subscribers_of (take at.0 subs) name)) (sym same_name);
        } in (
          s,
          Contains-get_or shares at.0 (id, nothing) in_shares,
          (dealt at.0 s is_s).same_id owns.owner at.1 ∙ owns.same_owner,
          ((dealt at.0 s is_s).set owns.owner at.1 p).1 (x.0, x.1, slice_get_within topics x.0 x.1 x.2, x.2, turn),
        )

    pub dealt-IsRange : IsRange view subs (spread_of shares)
    dealt-IsRange p id = (
      λ is.
          let (s, (at, in_shares, is_s), same_id, there) = owner_in-has shares p id (sym (get-spread_of shares p) ∙ is) in
          let found : slice_get shares at ≡ Some s = slice_get-get_or shares at s in_shares ∙ ap Some is_s in
          let m = member_of at s found in
          subst (IsRangeOwner view subs p) (sym ((dealt at s found).same_id m.0 m.1) ∙ same_id) (owner_by_turn p at m.0 m.1 (((dealt at s found).set m.0 m.1 p).0 there)),
      λ owns.
          let (s, in_shares, same_id, there) = share_of_owner p id owns in
          (IsShare-of shares dealt-AreShares s in_shares p).0 there ∙ ap Some same_id,
    )

-- ---- member by member

module _ (topics : List ViewTopic) (subs : List Subscriber) where
  pub IsDealing-none : (places : List ℕ) (shares : List (Text × Partitions)) → places ≡ replicate (length topics) 0 → shares ≡ [] → IsDealing topics subs 0 places shares
  IsDealing-none places shares zeros none = record {
    placed = zeros ∙ sym (counts topics);
    as_many = ap length none;
    dealt = λ at share is. let absent = ap (λ list. slice_get list at) (sym none) ∙ is in cc;
  }
    where
      counts : (ts : List ViewTopic) → counts_of ts [] ≡ replicate (length ts) 0
      counts [] = refl
      counts (t ∷ ts) = ap (λ rest. 0 ∷ rest) (counts ts)

  pub IsDealing-more : (n : ℕ) (places new : List ℕ) (shares : List (Text × Partitions)) (share : Text × Partitions) → IsDealing topics subs n places shares
      → new ≡ counts_of topics (take (n + 1) subs) → IsDealt topics subs n share → IsDealing topics subs (n + 1) new (shares ++ share ∷ [])
  IsDealing-more n places new shares share dealing moved is_dealt = record {
    placed = moved;
    as_many = length-append shares (share ∷ []) ∙ ap (λ k. k + 1) dealing.as_many;
    dealt = λ at other is. at_end shares at other is (λ before. dealing.dealt at other before)
        (λ last same. let here : n ≡ at = sym dealing.as_many ∙ sym last in subst (λ k. IsDealt topics subs k other) here (subst (IsDealt topics subs n) same is_dealt));
  }
    where
      at_end : {P : Type 0} (xs : List (Text × Partitions)) (at : ℕ) (other : Text × Partitions) → slice_get (xs ++ share ∷ []) at ≡ Some other → (slice_get xs at ≡ Some other → P) → (at ≡ length xs → share ≡ other → P) → P
      at_end [] zero other is before last = last refl (same_Some share other is)
      at_end [] (suc at) other is before last = cc
      at_end (x ∷ xs) zero other is before last = before is
      at_end (x ∷ xs) (suc at) other is before last = at_end xs at other is before (λ same. last (ap suc same))

-- ---- the shares that have a partition

-- the shares that have a partition
abbrev pub full : List (Text × Partitions) → List (Text × Partitions)
full shares = filter (λ s. not (is_nothing s.1)) shares

pub full-more : (shares : List (Text × Partitions)) (share : Text × Partitions) → with_dealt (full shares) share ≡ full (shares ++ share ∷ [])
full-more [] share = by (is_nothing share.1)
  where
    by : (b : Bool) → cond b [] (share ∷ []) ≡ cond (not b) (share ∷ []) []
    by true = refl
    by false = refl
full-more (s ∷ ss) share = by (is_nothing share.1) (is_nothing s.1) (full-more ss share)
  where
    by : (b c : Bool) → cond b (full ss) (full ss ++ share ∷ []) ≡ full (ss ++ share ∷ [])
        → cond b (cond (not c) (s ∷ full ss) (full ss)) (cond (not c) (s ∷ full ss) (full ss) ++ share ∷ []) ≡ cond (not c) (s ∷ full (ss ++ share ∷ [])) (full (ss ++ share ∷ []))
    by true true rest = rest
    by true false rest = ap (λ list. s ∷ list) rest
    by false true rest = rest
    by false false rest = ap (λ list. s ∷ list) rest

owned_in-full : (shares : List (Text × Partitions)) → owned_in (full shares) ≡ owned_in shares
owned_in-full [] = refl
owned_in-full (s ∷ ss) = by (is_nothing s.1) refl (owned_in-full ss)
  where
    by : (b : Bool) → is_nothing s.1 ≡ b → owned_in (full ss) ≡ owned_in ss → owned_in (cond (not b) (s ∷ full ss) (full ss)) ≡ owned_in (s ∷ ss)
    by false _ later = ap (λ rest. map (λ p. (p, s.0)) (in_order s.1) ++ rest) later
    by true none later =
        let none_there : in_order s.1 ≡ [] = nil_from_length (in_order s.1) ((Decides-eqb (size s.1) 0).0 none) in
        later ∙ ap (λ ps. map (λ p. (p, s.0)) ps ++ owned_in ss) (sym none_there)

pub spread_of-full : (shares : List (Text × Partitions)) → spread_of (full shares) ≡ spread_of shares
spread_of-full shares = ap (λ (es : List (Partition × Text)). finite.from_entries es) (owned_in-full shares)

pub AreShares-full : (shares : List (Text × Partitions)) → AreShares shares → AreShares (full shares)
AreShares-full shares are = record {
  ids_apart = AllPairs-filter (λ s t. s.0 ≢ t.0) (λ s. not (is_nothing s.1)) shares are.ids_apart;
  sets_apart = AllPairs-filter (λ s t. common s.1 t.1 ≡ nothing) (λ s. not (is_nothing s.1)) shares are.sets_apart;
}

-- what is true of the topics' places and of the shares that have a partition, once the first n members have theirs
pub record IsDealingFull (topics : List ViewTopic) (subs : List Subscriber) (n : ℕ) (places : List ℕ) (shares : List (Text × Partitions)) : Type 0 where
  pub all : List (Text × Partitions)
  pub dealing : IsDealing topics subs n places all
  pub are_full : shares ≡ full all

module _ (topics : List ViewTopic) (subs : List Subscriber) where
  pub IsDealingFull-none : (places : List ℕ) (shares : List (Text × Partitions)) → places ≡ replicate (length topics) 0 → shares ≡ [] → IsDealingFull topics subs 0 places shares
  IsDealingFull-none places shares zeros none = record { all = []; dealing = IsDealing-none topics subs places [] zeros refl; are_full = none }

  pub IsDealingFull-more : (n : ℕ) (places new : List ℕ) (shares more : List (Text × Partitions)) → IsDealingFull topics subs n places shares
      → new ≡ counts_of topics (take (n + 1) subs) → AddsDealt topics subs n shares more → IsDealingFull topics subs (n + 1) new more
  IsDealingFull-more n places new shares more full_so_far moved (share, is_dealt, is) = record {
    all = full_so_far.all ++ share ∷ [];
    dealing = IsDealing-more topics subs n places new full_so_far.all share full_so_far.dealing moved is_dealt;
    are_full = is ∙ ap (λ list. with_dealt list share) full_so_far.are_full ∙ full-more full_so_far.all share;
  }

  -- ---- once nobody gets a partition any more

  -- a list has no fewer subscribers before a later place
  subscribers_before : (xs : List Subscriber) (name : Text) (i j : ℕ) → i ≤ j → length (subscribers_of (take i xs) name) ≤ length (subscribers_of (take j xs) name)
  subscribers_before xs name zero j low = omega arith
  subscribers_before xs name (suc i) zero low = absurd (omega arith)
  subscribers_before [] name (suc i) (suc j) low = omega arith
  subscribers_before (x ∷ xs) name (suc i) (suc j) low =
      let rest = subscribers_before xs name i j (omega arith) in
      elim (has x.names name) as (λ b. length (cond b (x ∷ subscribers_of (take i xs) name) (subscribers_of (take i xs) name)) ≤ length (cond b (x ∷ subscribers_of (take j xs) name) (subscribers_of (take j xs) name))) [
        | true ↦ omega arith
        | false ↦ rest
      ]

  pub IsRangeShare-nothing : (counts places : List ℕ) (n at : ℕ) → counts ≡ counts_of topics subs → places ≡ counts_of topics (take n subs) → AreDealt topics counts places → n ≤ at
      → IsRangeShare topics subs at nothing
  IsRangeShare-nothing counts places n at counted placed dealt low m here p = (
    λ there. absurd (true≢false (sym there ∙ has-nothing partition_cmp p)),
    λ (t, topic, in_topics, is, turn).
        let name = string_bytes topic.name in
        let index = turn.index in
        let all = ap (λ list. get_or list t 0) counted ∙ counts_of-at topics subs t topic is in
        let before = ap (λ list. get_or list t 0) placed ∙ counts_of-at topics (take n subs) t topic is in
        let later = subscribers_before subs name n at low in
        let fewer = before_all subs at m here name turn.subscribes in
        let place = turn.place in
        let within = turn.below in
        let small = range_place-le topic.count (length (subscribers_of subs name)) index in
        absurd (elim (dealt t topic is) [ inl none_left ↦ omega arith | inr all_had ↦ omega arith ]),
  )

  pub IsDealingFull-rest : (n d : ℕ) (places : List ℕ) (shares : List (Text × Partitions)) → n + d ≡ length subs → IsDealingFull topics subs n places shares
      → ((at : ℕ) → n ≤ at → IsRangeShare topics subs at nothing) → IsDealingFull topics subs (length subs) (counts_of topics (take (length subs) subs)) shares
  IsDealingFull-rest n zero places shares all so_far none =
      let last : n ≡ length subs = omega arith in
      subst (λ k. IsDealingFull topics subs k (counts_of topics (take k subs)) shares) last (subst (λ list. IsDealingFull topics subs n list shares) so_far.dealing.placed so_far)
  IsDealingFull-rest n (suc d) places shares all so_far none =
      let (m, here) = some_at subs n (omega arith) in
      let dealt : IsDealt topics subs n (m.id, nothing) = record {
        same_id = λ other there. ap (λ s. s.id) (same_Some m other (sym here ∙ there));
        set = none n (omega arith);
      } in
      IsDealingFull-rest (n + 1) d (counts_of topics (take (n + 1) subs)) shares (omega arith)
      (IsDealingFull-more n places (counts_of topics (take (n + 1) subs)) shares shares so_far refl ((m.id, nothing), dealt, sym (ap (λ b. cond b shares (shares ++ (m.id, nothing) ∷ [])) ((is_nothing-Decides nothing).1 refl))))
      (λ at low. none at (omega arith))
    where
      some_at : (xs : List Subscriber) (k : ℕ) → k < length xs → (x : Subscriber) × (slice_get xs k ≡ Some x)
      some_at [] k low = absurd (omega arith)
      some_at (x ∷ xs) zero low = (x, refl)
      some_at (x ∷ xs) (suc k) low = some_at xs k (omega arith)

-- a slice that was written in place of all elements of a `Vec`
pub written_over : (n : ℕ) (new old : List ℕ) → n ≡ length old → length new ≡ length old → take n (new ++ drop (length new) old) ≡ new
written_over n new old all same =
    ap (λ rest. take n (new ++ rest)) (drop_all (length new) old (omega arith))
    ∙ ap (take n) (append-nil new)
    ∙ take_all n new (omega arith)
