-- The partitions of a run, and the turns of a member.
use Rattle.std.proofs.Common.{◌≡◌, ◌⊎◌, ℕ, ◌<◌, ◌≤◌, ◌+◌, Bool, true, false, cond, ◌||◌, List, [], ◌∷◌, ◌++◌, length, take, drop, get_or, set as set_at, pos, refl, sym, ap, subst, ◌∙◌, arith, inl, inr, IsTrue, ◌↔◌, Some, string_bytes, true≢false, below_more, get_or-set_other, get_or-set_same, length-append}
use Rattle.std.specs.List.{slice_get}
use Rattle.std.proofs.lemmas.List.{append-nil, ext_get_or, get_or-map, length-map, take-append-drop}
use Rattle.std.proofs.lemmas.List.Elements.{filter-append, filter_more}
use Rattle.std.proofs.lemmas.Option.{get_or_from_slice_get, same_Some, slice_get_within}
use Rattle.group_types.specs.Text.{Text}
use Rattle.group_types.specs.Assignors.{Subscriber, subscribers_of}
use Rattle.group_types.specs.Owners.{range_place}
use Rattle.topic_meta.specs.declared.view_topic.ViewTopic.{ViewTopic}
use Rattle.std.specs.Cmp.{Equal-is}
use Rattle.std.specs.Ordering.{eq_by_cmp}
use Rattle.std.proofs.lemmas.Bool.{cases_lt}
use Rattle.group_types.specs.declared.partition.Partition.{Partition}
use Rattle.group_types.specs.Sets.{has, nothing, with_one}
use Rattle.group_types.specs.Partition.{partition_cmp, Partitions}
use Rattle.group_types.proofs.Orders.{partition_cmp-IsAntisymmetric, partition_cmp-itself, partition_cmp_total}
use Rattle.group_types.proofs.SetLemmas.{has-nothing, has-with_one}
use Rattle.range_assign.specs.Turns.{AddsRun, IsGiven, IsInRun, IsInTurn, IsRangeShare, counts_of}

or_cases : (a b : Bool) → (a || b) ≡ true → (a ≡ true) ⊎ (b ≡ true)
or_cases true b h = inl refl
or_cases false b h = inr h

or_second : (a b : Bool) → b ≡ true → (a || b) ≡ true
or_second true b h = refl
or_second false b h = h

tied_is : (p q : Partition) → eq_by_cmp partition_cmp p q ≡ true → p ≡ q
tied_is p q tie = partition_cmp-IsAntisymmetric p q ((Equal-is (partition_cmp p q)).0 tie)

same_tied : (p q : Partition) → p ≡ q → eq_by_cmp partition_cmp p q ≡ true
same_tied p q same = (Equal-is (partition_cmp p q)).1 (ap (partition_cmp p) (sym same) ∙ partition_cmp-itself p)

pub AddsRun-none : (set : Partitions) (topic : List ℕ) (first : ℕ) → AddsRun set set topic first first
AddsRun-none set topic first p = (λ there. inl there, λ there. elim there [ inl old ↦ old | inr (i, is_topic, is_index, low, high) ↦ absurd (omega arith) ])

abbrev partition_at : List ℕ → ℕ → Partition
partition_at topic i = record { topic = topic; index = pos i }

pub AddsRun-more : (old set : Partitions) (topic : List ℕ) (first i : ℕ) → first ≤ i → AddsRun old set topic first i → AddsRun old (with_one set (partition_at topic i)) topic first (i + 1)
AddsRun-more old set topic first i rise adds p =
    let answer = has-with_one partition_cmp_total set (partition_at topic i) p in (
      λ there. elim (or_cases _ _ (sym answer ∙ there)) [
        | inl tie ↦
            let same = tied_is p (partition_at topic i) tie in
            inr (i, ap (λ q. q.topic) same, ap (λ q. q.index) same, rise, omega arith)
        | inr before ↦ elim ((adds p).0 before) [
          | inl in_old ↦ inl in_old
          | inr (j, is_topic, is_index, low, high) ↦ inr (j, is_topic, is_index, low, omega arith)
        ]
      ],
      λ there. answer ∙ elim there [
        | inl in_old ↦ or_second _ _ ((adds p).1 (inl in_old))
        | inr (j, is_topic, is_index, low, high) ↦ elim (cases_lt j i) [
          | inl below ↦ or_second _ _ ((adds p).1 (inr (j, is_topic, is_index, low, below)))
          | inr last ↦
              let same : p ≡ partition_at topic i = λ k. record { topic = is_topic k; index = (is_index ∙ ap pos (let equal : j ≡ i = omega arith in equal)) k } in
              ap (λ b. b || has set p) (same_tied p (partition_at topic i) same)
        ]
      ],
    )

-- ---- how many subscribers come before a member

module _ (subs : List Subscriber) (at : ℕ) (m : Subscriber) (here : slice_get subs at ≡ Some m) (name : Text) where
  within : at < length subs
  within = slice_get_within subs at m here

  pub subscribers_of-next : subscribers_of (take (at + 1) subs) name ≡ subscribers_of (take at subs) name ++ cond (has m.names name) (m ∷ []) []
  subscribers_of-next =
      filter_more (λ s. has s.names name) subs at m within
      ∙ ap (λ s. subscribers_of (take at subs) name ++ cond (has s.names name) (s ∷ []) []) (get_or_from_slice_get subs at m m here)

  pub subscribers_of-whole : subscribers_of subs name ≡ subscribers_of (take (at + 1) subs) name ++ subscribers_of (drop (at + 1) subs) name
  subscribers_of-whole =
      ap (λ list. subscribers_of list name) (sym (take-append-drop (at + 1) subs)) ∙ filter-append (λ s. has s.names name) (take (at + 1) subs) (drop (at + 1) subs)

  pub passed_over : has m.names name ≡ false → length (subscribers_of (take (at + 1) subs) name) ≡ length (subscribers_of (take at subs) name)
  passed_over away =
      ap length (subscribers_of-next ∙ ap (λ b. subscribers_of (take at subs) name ++ cond b (m ∷ []) []) away)
      ∙ ap length (append-nil (subscribers_of (take at subs) name))

  pub one_later : has m.names name ≡ true → length (subscribers_of (take (at + 1) subs) name) ≡ length (subscribers_of (take at subs) name) + 1
  one_later there =
      ap length (subscribers_of-next ∙ ap (λ b. subscribers_of (take at subs) name ++ cond b (m ∷ []) []) there)
      ∙ length-append (subscribers_of (take at subs) name) (m ∷ [])

  -- the member is one of the subscribers, and those before it are fewer
  pub before_all : has m.names name ≡ true → length (subscribers_of (take at subs) name) < length (subscribers_of subs name)
  before_all there =
      let later = one_later there in
      let whole = ap length subscribers_of-whole ∙ length-append (subscribers_of (take (at + 1) subs) name) (subscribers_of (drop (at + 1) subs) name) in
      omega arith

-- ---- the counts of the topics

pub counts_of-at : (topics : List ViewTopic) (subs : List Subscriber) (t : ℕ) (topic : ViewTopic) → slice_get topics t ≡ Some topic
    → get_or (counts_of topics subs) t 0 ≡ length (subscribers_of subs (string_bytes topic.name))
counts_of-at topics subs t topic is =
    get_or-map (λ x. length (subscribers_of subs (string_bytes x.name))) topics t topic 0 (slice_get_within topics t topic is)
    ∙ ap (λ x. length (subscribers_of subs (string_bytes x.name))) (get_or_from_slice_get topics t topic topic is)

-- ---- topic by topic

module _ (topics : List ViewTopic) (subs done : List Subscriber) (m : Subscriber) (p : Partition) where
  pub IsGiven-none : IsGiven topics 0 subs done m p → ⊥
  IsGiven-none given = let none = given.2 in omega arith

  pub IsGiven-more : (n : ℕ) (topic : ViewTopic) → slice_get topics n ≡ Some topic → IsGiven topics (n + 1) subs done m p ↔ (IsGiven topics n subs done m p ⊎ IsInTurn subs done m topic p)
  IsGiven-more n topic is = (
    λ (t, other, low, there, turn). elim (cases_lt t n) [
      | inl below ↦ inl (t, other, below, there, turn)
      | inr last ↦
          let same : Some other ≡ Some topic = sym there ∙ ap (slice_get topics) (let equal : t ≡ n = omega arith in equal) ∙ is in
          inr (subst (λ x. IsInTurn subs done m x p) (same_Some other topic same) turn)
    ],
    λ given. elim given [
      | inl (t, other, low, there, turn) ↦ (t, other, (let near = low in omega arith), there, turn)
      | inr turn ↦ (n, topic, omega arith, is, turn)
    ],
  )

  -- the run of a subscriber is its turn
  pub IsInTurn-run : (topic : ViewTopic) (first end : ℕ) → IsTrue (has m.names (string_bytes topic.name)) → end ≤ topic.count
      → ((i : ℕ) → i < topic.count → ((first ≤ i) × (i < end)) ↔ (range_place topic.count (length (subscribers_of subs (string_bytes topic.name))) i ≡ length (subscribers_of done (string_bytes topic.name))))
      → IsInRun topic.id first end p ↔ IsInTurn subs done m topic p
  IsInTurn-run topic first end subscribes short run = (
    λ (i, is_topic, is_index, low, high). record {
      subscribes = subscribes;
      same_id = is_topic;
      index = i;
      is_index = is_index;
      below = omega arith;
      place = (run i (omega arith)).0 (low, high);
    },
    λ turn. let bounds = (run turn.index turn.below).1 turn.place in (turn.index, turn.same_id, turn.is_index, bounds.0, bounds.1),
  )

-- what is true of the topics' places and of a member's set once the first n topics were gone over
pub record IsTurning (topics : List ViewTopic) (subs : List Subscriber) (at : ℕ) (m : Subscriber) (n : ℕ) (places : List ℕ) (set : Partitions) : Type 0 where
  pub moved : (t : ℕ) → t < n → get_or places t 0 ≡ get_or (counts_of topics (take (at + 1) subs)) t 0
  pub kept : (t : ℕ) → n ≤ t → get_or places t 0 ≡ get_or (counts_of topics (take at subs)) t 0
  pub share : (p : Partition) → IsTrue (has set p) ↔ IsGiven topics n subs (take at subs) m p

module _ (topics : List ViewTopic) (subs : List Subscriber) (at : ℕ) (m : Subscriber) where
  pub IsTurning-none : (places : List ℕ) (set : Partitions) → places ≡ counts_of topics (take at subs) → set ≡ nothing → IsTurning topics subs at m 0 places set
  IsTurning-none places set same none = record {
    moved = λ t low. absurd (omega arith);
    kept = λ t low. ap (λ list. get_or list t 0) same;
    share = λ p. (
      λ there. let away = sym (ap (λ s. has s p) none ∙ has-nothing partition_cmp p) ∙ there in absurd (true≢false (sym away)),
      λ given. absurd (IsGiven-none topics subs (take at subs) m p given),
    );
  }

  module _ (n : ℕ) (places : List ℕ) (set : Partitions) (topic : ViewTopic) (here : slice_get subs at ≡ Some m) (is : slice_get topics n ≡ Some topic) (turning : IsTurning topics subs at m n places set) where
    before_is : get_or (counts_of topics (take at subs)) n 0 ≡ length (subscribers_of (take at subs) (string_bytes topic.name))
    before_is = counts_of-at topics (take at subs) n topic is

    after_is : get_or (counts_of topics (take (at + 1) subs)) n 0 ≡ length (subscribers_of (take (at + 1) subs) (string_bytes topic.name))
    after_is = counts_of-at topics (take (at + 1) subs) n topic is

    pub place_is : get_or places n 0 ≡ length (subscribers_of (take at subs) (string_bytes topic.name))
    place_is = turning.kept n (omega arith) ∙ before_is

    pub place-below : has m.names (string_bytes topic.name) ≡ true → get_or places n 0 < get_or (counts_of topics subs) n 0
    place-below there =
        let all = counts_of-at topics subs n topic is in
        let here_is = place_is in
        let fewer = before_all subs at m here (string_bytes topic.name) there in
        omega arith

    pub IsTurning-skip : has m.names (string_bytes topic.name) ≡ false → IsTurning topics subs at m (n + 1) places set
    IsTurning-skip away = record {
      moved = below_more _ n turning.moved (place_is ∙ sym (passed_over subs at m here (string_bytes topic.name) away) ∙ sym after_is);
      kept = λ t low. turning.kept t (omega arith);
      share = λ p. (
        λ there. (IsGiven-more topics subs (take at subs) m p n topic is).1 (inl ((turning.share p).0 there)),
        λ given. elim ((IsGiven-more topics subs (take at subs) m p n topic is).0 given) [
          | inl before ↦ (turning.share p).1 before
          | inr turn ↦ absurd (true≢false (sym turn.subscribes ∙ away))
        ],
      );
    }

    pub IsTurning-take : (new : Partitions) (first end : ℕ) → n < length places → has m.names (string_bytes topic.name) ≡ true → end ≤ topic.count
        → ((i : ℕ) → i < topic.count → ((first ≤ i) × (i < end)) ↔ (range_place topic.count (get_or (counts_of topics subs) n 0) i ≡ get_or places n 0))
        → AddsRun set new topic.id first end → IsTurning topics subs at m (n + 1) (set_at places n (get_or places n 0 + 1)) new
    IsTurning-take new first end in_places there short run adds =
        let counted = counts_of-at topics subs n topic is in
        let in_turn = λ (p : Partition). IsInTurn-run topics subs (take at subs) m p topic first end there short
        (λ i low. (λ bounds. ap (λ k. range_place topic.count k i) (sym counted) ∙ (run i low).0 bounds ∙ place_is, λ same. (run i low).1 (ap (λ k. range_place topic.count k i) counted ∙ same ∙ sym place_is))) in
        record {
          moved = below_more _ n
              (λ t low. get_or-set_other places n t (get_or places n 0 + 1) 0 (omega arith) ∙ turning.moved t low)
              (get_or-set_same places n (get_or places n 0 + 1) 0 in_places ∙ ap (λ k. k + 1) place_is ∙ sym (one_later subs at m here (string_bytes topic.name) there) ∙ sym after_is);
          kept = λ t low. get_or-set_other places n t (get_or places n 0 + 1) 0 (omega arith) ∙ turning.kept t (omega arith);
          share = λ p. (
            λ has_new. (IsGiven-more topics subs (take at subs) m p n topic is).1 (elim ((adds p).0 has_new) [
              | inl old ↦ inl ((turning.share p).0 old)
              | inr in_run ↦ inr ((in_turn p).0 in_run)
            ]),
            λ given. (adds p).1 (elim ((IsGiven-more topics subs (take at subs) m p n topic is).0 given) [
              | inl before ↦ inl ((turning.share p).1 before)
              | inr turn ↦ inr ((in_turn p).1 turn)
            ]),
          );
        }

  -- ---- once all topics were gone over

  pub IsTurning-moved : (n : ℕ) (places : List ℕ) (set : Partitions) → n ≡ length topics → length places ≡ length topics → IsTurning topics subs at m n places set
      → places ≡ counts_of topics (take (at + 1) subs)
  IsTurning-moved n places set all long turning =
      let counts = length-map topics (λ t. length (subscribers_of (take (at + 1) subs) (string_bytes t.name))) in
      ext_get_or 0 places (counts_of topics (take (at + 1) subs)) (omega arith) (λ t low. turning.moved t (omega arith))

  pub IsTurning-share : (n : ℕ) (places : List ℕ) (set : Partitions) → slice_get subs at ≡ Some m → n ≡ length topics → IsTurning topics subs at m n places set
      → IsRangeShare topics subs at set
  IsTurning-share n places set here all turning other there p =
      let same : m ≡ other = same_Some m other (sym here ∙ there) in
      subst (λ x. IsTrue (has set p) ↔ IsGiven topics (length topics) subs (take at subs) x p) same
      (subst (λ k. IsTrue (has set p) ↔ IsGiven topics k subs (take at subs) m p) all (turning.share p))
