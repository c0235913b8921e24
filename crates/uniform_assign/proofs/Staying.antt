-- Former owners that are lawful and even, told share by share.
use Rattle.std.proofs.Common.{◌≡◌, ◌⊎◌, ℕ, zero, suc, ◌++◌, replicate, ◌<◌, ◌≤◌, ◌+◌, pos, Bool, true, false, ◌||◌, List, [], ◌∷◌, length, refl, sym, ap, subst, ◌∙◌, arith, inl, inr, Some, None, Result, Ok, Err, ℤ, negsuc, nat_abs, string_bytes, true≢false, slice_index_or}
use Rattle.std.specs.Global.{Vec}
use Rattle.std.specs.FinMap as finite
use Rattle.std.specs.List.{list_any, slice_get}
use Rattle.std.specs.Bool.{OnTrue}
use Rattle.std.specs.Int.{FitsUnsignedBits}
use Rattle.std.specs.Option.{MatchOption, option_map_or}
use Rattle.std.specs.Result.{IfOk, OkIff, result_ok}
use Rattle.std.specs.Ordering.{eq_by_cmp}
use Rattle.std.proofs.lemmas.Bool.{cases_lt}
use Rattle.std.proofs.lemmas.Option.{same_Some, slice_get_within}
use Rattle.group_types.specs.declared.partition.Partition.{Partition}
use Rattle.group_types.specs.Text.{Text}
use Rattle.group_types.specs.Topics.{Topic, Topics}
use Rattle.group_types.specs.Partition.{Partitions, partition_cmp}
use Rattle.group_types.specs.Sets.{has, in_order, size}
use Rattle.group_types.specs.Assignors.{Subscriber, subscribers_of}
use Rattle.group_types.specs.Owners.{IsLawful, IsShare, IsSubscriber, Spread}
use Rattle.group_types.specs.Uniform.{AreFilled, Fills, GoesTo, IsEven, IsUniform, count, in_partition_order}
use Rattle.group_types.proofs.Indexes.{index_below, index_of}
use Rattle.group_types.proofs.SetLemmas.{has-in_order}
use Rattle.topic_meta.specs.Views.{all_named, named}
use Rattle.topic_meta.specs.declared.view_topic.ViewTopic.{ViewTopic}
use Rattle.range_assign.specs.Marks.{marks_in}
use Rattle.range_assign.specs.Shares.{AreShares, spread_of}
use Rattle.range_assign.proofs.Marked.{marked-at}
use Rattle.range_assign.proofs.Spreads.{IsShare-of, get-spread_of, owner_in-has}
use Rattle.uniform_assign.specs.Marks.{AddsMark, AddsMarks, AreAllMarked, AreNamed, IsFull, IsPartAt, is_marked, part_of}
use Rattle.uniform_assign.proofs.Lists.{Contains-at, at_Contains, slice_get-map_at, slice_get-map_from}
use Rattle.uniform_assign.proofs.Owned.{count-share}
use Rattle.uniform_assign.proofs.Owners.{same_tied, tied_is}
use Rattle.uniform_assign.proofs.PartitionOrder.{IsOfTopic, part_from, taker_from, taker_subscribes, topic_at, topic_from}
use Rattle.uniform_assign.proofs.Soundness.{IsOwned, OwnersSubscribe, even_is_level, lawful_none, lawful_of, lawful_subscribe}

pub where_true : {P : Type 0} (b : Bool) → (b ≡ true → P) → OnTrue b P
where_true true p = p refl
where_true false p = tt

-- the index that a number reads as
pub index_shown : {E : Type 0} (r : Result ℕ E) (z : ℤ) (i : ℕ) → Some i ≡ result_ok r → OkIff r (FitsUnsignedBits 64 z) (nat_abs z) → z ≡ pos i
index_shown (Ok n) (pos m) i is fits = ap pos (sym (same_Some i n is ∙ fits.1))
index_shown (Ok n) (negsuc m) i is fits = absurd fits.0
index_shown (Err e) z i is fits = cc

-- a full list of marks has them all
pub full_at : (marks : List (Vec Bool)) (t count i : ℕ) (v : Vec Bool) → slice_get marks t ≡ Some v → IsFull v.items count → i < count → is_marked marks t i ≡ true
full_at marks t count i v is full low = ap (λ o. option_map_or (λ (w : Vec Bool). slice_index_or w.items i false) o false) is ∙ full i low

blank_at : (n i : ℕ) → slice_index_or (replicate n false) i false ≡ false
blank_at zero i = refl
blank_at (suc n) zero = refl
blank_at (suc n) (suc i) = blank_at n i

-- marks that are not set are added to others
pub pushed_blank : (marks : List (Vec Bool)) (v : Vec Bool) (n : ℕ) → v.items ≡ replicate n false → ((t i : ℕ) → is_marked marks t i ≡ false) → (t i : ℕ) → is_marked (marks ++ v ∷ []) t i ≡ false
pushed_blank [] v n blank none zero i = ap (λ xs. slice_index_or xs i false) blank ∙ blank_at n i
pushed_blank [] v n blank none (suc t) i = refl
pushed_blank (m ∷ ms) v n blank none zero i = none 0 i
pushed_blank (m ∷ ms) v n blank none (suc t) i = pushed_blank ms v n blank (λ u. none (suc u)) t i

pub true_if_ok : {E P : Type 0} (r : Result Bool E) → P → IfOk r (λ b. OnTrue b P)
true_if_ok (Ok true) p = p
true_if_ok (Ok false) p = tt
true_if_ok (Err e) p = tt

pub on_true_also : {P Q : Type 0} (b : Bool) → (P → Q) → OnTrue b P → OnTrue b Q
on_true_also true more p = more p
on_true_also false more p = p

pub if_ok_also : {X E : Type 0} {P Q : X → Type 0} (r : Result X E) → ((x : X) → P x → Q x) → IfOk r P → IfOk r Q
if_ok_also (Ok x) more is = more x is
if_ok_also (Err e) more is = is

-- ---- one share

-- whether the partition is among those that are left
abbrev is_left : List Partition → Partition → Bool
is_left rest p = list_any (eq_by_cmp partition_cmp p) rest

-- some partitions of the set are left, and the others are marked
pub record IsMarking (topics : List ViewTopic) (marks : List Bool) (set : Partitions) (rest : List Partition) (old new : List (Vec Bool)) : Type 0 where
  pub left : (p : Partition) → is_left rest p ≡ true → has set p ≡ true
  pub done : (p : Partition) → has set p ≡ true → (is_left rest p ≡ true) ⊎ ((t : ℕ) × (i : ℕ) × IsPartAt topics marks p t i)
  pub added : AddsMarks topics set old new

or_right : (a b : Bool) → b ≡ true → (a || b) ≡ true
or_right true b is = refl
or_right false b is = is

or_left : (a b : Bool) → a ≡ true → (a || b) ≡ true
or_left true b is = refl
or_left false b is = absurd (true≢false (sym is))

or_cases : (a b : Bool) → (a || b) ≡ true → (a ≡ true) ⊎ (b ≡ true)
or_cases true b is = inl refl
or_cases false b is = inr is

module _ (topics : List ViewTopic) (marks : List Bool) (set : Partitions) (old : List (Vec Bool)) where
  pub IsMarking-none : (rest : List Partition) → rest ≡ in_order set → IsMarking topics marks set rest old old
  IsMarking-none rest all = record {
    left = λ p is. has-in_order set p ∙ ap (λ ps. is_left ps p) (sym all) ∙ is;
    done = λ p is. inl (ap (λ ps. is_left ps p) all ∙ sym (has-in_order set p) ∙ is);
    added = λ t i topic there is. inl is;
  }

  pub IsMarking-next : (key : Partition) (rest : List Partition) (mid new : List (Vec Bool)) (t i : ℕ) → IsMarking topics marks set (key ∷ rest) old mid → IsPartAt topics marks key t i
      → AddsMark t i mid new → IsMarking topics marks set rest old new
  IsMarking-next key rest mid new t i marking part adds = record {
    left = λ p is. marking.left p (or_right (eq_by_cmp partition_cmp p key) (is_left rest p) is);
    done = λ p is. elim (marking.done p is) [
      | inl among ↦ elim (or_cases (eq_by_cmp partition_cmp p key) (is_left rest p) among) [
        | inl tie ↦ inr (t, i, subst (λ q. IsPartAt topics marks q t i) (sym (tied_is p key tie)) part)
        | inr later ↦ inl later
      ]
      | inr before ↦ inr before
    ];
    added = λ u j topic there is. elim (adds u j is) [
      | inl before ↦ marking.added u j topic there before
      | inr (same_t, same_i) ↦
          let one : topic ≡ part.topic = same_Some topic part.topic (sym there ∙ ap (slice_get topics) same_t ∙ part.is_topic) in
          let key_is : part_of topic j ≡ key = (λ k. part_of (one k) (same_i k)) ∙ sym part.same in
          inr (marking.left (part_of topic j) (or_left (eq_by_cmp partition_cmp (part_of topic j) key) (is_left rest (part_of topic j)) (same_tied (part_of topic j) key key_is)))
    ];
  }

  pub AreNamed-all : (new : List (Vec Bool)) → IsMarking topics marks set [] old new → AreNamed topics marks set
  AreNamed-all new marking p is = elim (marking.done p is) [
    | inl among ↦ absurd (true≢false (sym among))
    | inr part ↦ part
  ]

-- ---- share by share

module _ (view : Topics) (subs : List Subscriber) (topics : List ViewTopic) (shares : List (Text × Partitions)) where
  -- the first shares' owners subscribe them, and what is marked is of a share
  pub record AreSeen (n : ℕ) (marks : List (Vec Bool)) : Type 0 where
    pub subscribe : (k : ℕ) (s : Text × Partitions) → k < n → slice_get shares k ≡ Some s → (p : Partition) → has s.1 p ≡ true → IsSubscriber view subs p s.0
    pub owned : (t i : ℕ) (topic : ViewTopic) → slice_get topics t ≡ Some topic → is_marked marks t i ≡ true
        → (k : ℕ) × (s : Text × Partitions) × (slice_get shares k ≡ Some s) × (has s.1 (part_of topic i) ≡ true)

  pub AreSeen-none : (marks : List (Vec Bool)) → ((t i : ℕ) → is_marked marks t i ≡ false) → AreSeen 0 marks
  AreSeen-none marks none = record {
    subscribe = λ k s low. absurd (omega (arith, low));
    owned = λ t i topic there is. absurd (true≢false (sym is ∙ none t i));
  }

  module _ (all : all_named topics ≡ finite.entries view) where
    part_subscribes : (m : ℕ) (member : Subscriber) (marks : List Bool) (p : Partition) (t i : ℕ) → slice_get subs m ≡ Some member → marks ≡ marks_in topics member.names
        → IsPartAt topics marks p t i → IsSubscriber view subs p member.id
    part_subscribes m member marks p t i is_member marked part =
        let x = part.topic in
        let at : slice_get (finite.entries view) t ≡ Some (named x) = ap (λ es. slice_get es t) (sym all) ∙ slice_get-map_at named topics t x part.is_topic in (
          member,
          Contains-at subs m member is_member,
          refl,
          (
            string_bytes x.name,
            record { id = x.id; count = x.count },
            topic_from view t (named x) at,
            sym (marked-at topics member.names marks marked t x part.is_topic) ∙ part.is_named,
            ap (λ (q : Partition). q.topic) part.same,
            index_below p.index i x.count (ap (λ (q : Partition). q.index) part.same) part.below,
          ),
        )

    pub AreSeen-more : (n m : ℕ) (s : Text × Partitions) (member : Subscriber) (named_topics : List Bool) (old new : List (Vec Bool)) → slice_get shares n ≡ Some s
        → slice_get subs m ≡ Some member → member.id ≡ s.0 → named_topics ≡ marks_in topics member.names → AreNamed topics named_topics s.1 → AddsMarks topics s.1 old new → AreSeen n old → AreSeen (n + 1) new
    AreSeen-more n m s member named_topics old new here is_member same_id marked are adds seen = record {
      subscribe = λ k x low is p there. elim (cases_lt k n) [
        | inl below ↦ seen.subscribe k x below is p there
        | inr above ↦
            let same : k ≡ n = omega arith in
            let one : s ≡ x = same_Some s x (sym here ∙ ap (slice_get shares) (sym same) ∙ is) in
            let (t, i, part) = are p (ap (λ (y : Text × Partitions). has y.1 p) one ∙ there) in
            subst (IsSubscriber view subs p) (same_id ∙ ap (λ (y : Text × Partitions). y.0) one) (part_subscribes m member named_topics p t i is_member marked part)
      ];
      owned = λ t i topic there is. elim (adds t i topic there is) [
        | inl before ↦ seen.owned t i topic there before
        | inr among ↦ (n, s, here, among)
      ];
    }

    pub AreSeen-lawful : (former : Spread) (n : ℕ) (marks : List (Vec Bool)) → spread_of shares ≡ former → AreShares shares → length shares ≤ n → AreAllMarked topics marks → AreSeen n marks
        → IsLawful view subs former
    AreSeen-lawful former n marks shown are long full seen = lawful_of view subs former owners owned
      where
        owners : OwnersSubscribe view subs former
        owners p id is =
            let (s, among, same, there) = owner_in-has shares p id (sym (get-spread_of shares p) ∙ ap (λ f. finite.get f p) shown ∙ is) in
            let (k, is_k) = at_Contains shares s among in
            let within = slice_get_within shares k s is_k in
            subst (IsSubscriber view subs p) same (seen.subscribe k s (omega arith) is_k p there)

        owned : (p : Partition) (id : Text) → IsSubscriber view subs p id → IsOwned former p
        owned p id (m, among, same, (name, topic, of_view, subscribes, same_id, index)) =
            let (t, is_t) = topic_at view name topic of_view in
            let (x, is_x, is_named) = slice_get-map_from named topics t (name, topic) (ap (λ es. slice_get es t) all ∙ is_t) in
            let (i, same_index, below) = index_of p.index topic.count index in
            let count_is : x.count ≡ topic.count = ap (λ (y : Text × Topic). y.1.count) is_named in
            let id_is : x.id ≡ topic.id = ap (λ (y : Text × Topic). y.1.id) is_named in
            let (k, s, is_s, there) = seen.owned t i x is_x (full t i x is_x (omega arith)) in
            let part_is : part_of x i ≡ p = λ j. record { topic = (id_is ∙ sym same_id) j; index = sym same_index j } in
            let here : finite.get (spread_of shares) (part_of x i) ≡ Some s.0 = (IsShare-of shares are s (Contains-at shares k s is_s) (part_of x i)).0 there in
            (s.0, subst (λ f. finite.get f p ≡ Some s.0) shown (subst (λ q. finite.get (spread_of shares) q ≡ Some s.0) part_is here))

-- ---- even

pub IsEven-of : (view : Topics) (subs : List Subscriber) (former : Spread) (shares : List (Text × Partitions)) (n most : ℕ) → spread_of shares ≡ former → AreShares shares
    → ((k : ℕ) (s : Text × Partitions) → slice_get shares k ≡ Some s → size s.1 ≤ most) → length subs ≤ n
    → ((k : ℕ) (s : Subscriber) → k < n → slice_get subs k ≡ Some s → most ≤ count former s.id + 1) → IsEven view subs former
IsEven-of view subs former shares n most shown are high long low p m other is (member, among, same, subscribes) =
    let (s, in_shares, is_m, there) = owner_in-has shares p m (sym (get-spread_of shares p) ∙ ap (λ f. finite.get f p) shown ∙ is) in
    let (k, is_k) = at_Contains shares s in_shares in
    let (j, is_j) = at_Contains subs member among in
    let owned : size s.1 ≡ count former m = count-share former m s.1 (subst (λ id. IsShare former id s.1) is_m (subst (λ f. IsShare f s.0 s.1) shown (IsShare-of shares are s in_shares))) in
    let most_is = high k s is_k in
    let within = slice_get_within subs j member is_j in
    let near : most ≤ count former other + 1 = subst (λ id. most ≤ count former id + 1) same (low j member (omega arith) is_j) in
    omega arith

-- ---- uniform

module _ (view : Topics) (subs : List Subscriber) (former : Spread) (lawful : IsLawful view subs former) where
  nobody_takes : (x : Text × Partition) → IsOfTopic view x → finite.get former x.1 ≡ None → (takers : List Subscriber) → takers ≡ subscribers_of subs x.0 → GoesTo former takers x.1 former
  nobody_takes x of_x none [] are = refl
  nobody_takes x of_x none (m ∷ ms) are =
      absurd (lawful_none view subs former x.1 m.id lawful none (taker_subscribes view subs x m of_x (taker_from subs x.0 0 m (ap (λ list. slice_get list 0) (sym are)))))

  fills_none : (x : Text × Partition) → IsOfTopic view x → Fills subs former x former
  fills_none x of_x = elim (finite.get former x.1) as (λ o. finite.get former x.1 ≡ o → MatchOption o (GoesTo former (subscribers_of subs x.0) x.1 former) (λ _. former ≡ former)) [
    | None ↦ λ none. nobody_takes x of_x none (subscribers_of subs x.0) refl
    | Some id ↦ λ is. refl
  ] refl

  all_filled : (xs : List (Text × Partition)) → ((k : ℕ) (x : Text × Partition) → slice_get xs k ≡ Some x → IsOfTopic view x) → AreFilled subs former xs former
  all_filled [] of_view = refl
  all_filled (x ∷ xs) of_view = (former, fills_none x (of_view 0 x refl), all_filled xs (λ k. of_view (suc k)))

  -- lawful and even owners are their own successors
  pub IsUniform-stay : IsEven view subs former → IsUniform view subs former former
  IsUniform-stay even = record {
    kept = former;
    is_kept = λ p id. (λ is. (is, lawful_subscribe view subs former lawful p id is), λ both. both.0);
    filled = former;
    are_filled = all_filled (in_partition_order view) (part_from view);
    steps = [];
    are_moves = refl;
    is_level = even_is_level view subs former even;
  }
