-- Where partitions are in partition order: those of a topic are behind one another.
use Rattle.std.proofs.Common.{◌≡◌, ℕ, suc, ◌<◌, ◌+◌, true, false, cond, ◌^◌, ℤ, List, [], ◌∷◌, ◌++◌, length, pos, refl, sym, ap, subst, ◌∙◌, arith, inl, inr, Some, Result, Ok, Err, nat_abs}
use Rattle.std.specs.BTreeMap.{BTreeMap, Updates, get}
use Rattle.std.specs.Cmp.{Equal-is}
use Rattle.std.specs.Ordering.{is_eq}
use Rattle.std.specs.FinMap as finite
use Rattle.std.specs.Int.{FitsUnsignedBits}
use Rattle.std.specs.Result.{OkIff, result_ok}
use Rattle.std.specs.List.{flat_map, range_with_len, slice_get}
use Rattle.std.proofs.lemmas.Bool.{cases_lt}
use Rattle.std.proofs.lemmas.Option.{get_or_from_slice_get, same_Some, slice_get_within}
use Rattle.group_types.specs.declared.partition.Partition.{Partition}
use Rattle.group_types.specs.Text.{Text, text_cmp}
use Rattle.group_types.specs.Topics.{Topic, Topics}
use Rattle.group_types.specs.Uniform.{in_partition_order, partitions_of}
use Rattle.topic_meta.proofs.Places.{get-at}
use Rattle.range_assign.proofs.Dealt.{pos_inj}
use Rattle.group_types.proofs.Orders.{text_cmp-IsAntisymmetric, text_cmp-itself}
use Rattle.uniform_assign.specs.declared.board.Board.{Board}
use Rattle.uniform_assign.specs.declared.board.Place.{Place}
use Rattle.uniform_assign.specs.Boards.{IsBare}
use Rattle.uniform_assign.specs.Former.{AreFirsts}
use Rattle.uniform_assign.proofs.Boards.{as_many_places, part_at, parts_are_apart}
use Rattle.uniform_assign.proofs.Lists.{range-at, range-from, slice_get-append_cases, slice_get-append_left, slice_get-map_at, slice_get-map_from, some_at}

append-at : {X : Type 0} (xs ys : List X) (j : ℕ) (x : X) → slice_get ys j ≡ Some x → slice_get (xs ++ ys) (length xs + j) ≡ Some x
append-at [] ys j x is = ap (slice_get ys) (let same : 0 + j ≡ j = omega arith in same) ∙ is
append-at (y ∷ xs) ys j x is = ap (slice_get (y ∷ (xs ++ ys))) (let same : suc (length xs) + j ≡ suc (length xs + j) = omega arith in same) ∙ append-at xs ys j x is

-- the first partition of a partition's topic, and its own index behind it
record IsBehind (parts : List (Text × Partition)) (k : ℕ) (x : Text × Partition) : Type 0 where
  first : ℕ
  index : ℕ
  is_index : x.1.index ≡ pos index
  behind : first + index ≡ k
  is_first : slice_get parts first ≡ Some (x.0, record { topic = x.1.topic; index = pos 0 })

abbrev part_of : Text × Topic → ℕ → Text × Partition
part_of t n = (t.0, record { topic = t.1.id; index = pos n })

IsBehind-at : (topics : List (Text × Topic)) (k : ℕ) (x : Text × Partition) → slice_get (flat_map partitions_of topics) k ≡ Some x → IsBehind (flat_map partitions_of topics) k x
IsBehind-at [] k x is = cc
IsBehind-at (t ∷ ts) k x is = elim (slice_get-append_cases (partitions_of t) (flat_map partitions_of ts) k x is) [
  | inl here ↦
      let (n, is_n, same) = slice_get-map_from (part_of t) (range_with_len 0 t.1.count) k x here in
      let (at, low) = range-from t.1.count k n is_n in
      let first = slice_get-map_at (part_of t) (range_with_len 0 t.1.count) 0 0 (range-at t.1.count 0 (omega arith)) in
      record {
        first = 0;
        index = n;
        is_index = ap (λ (y : Text × Partition). y.1.index) (sym same);
        behind = omega arith;
        is_first = slice_get-append_left (partitions_of t) (flat_map partitions_of ts) 0 (part_of t 0) first ∙ ap (λ (y : Text × Partition). Some (y.0, record { topic = y.1.topic; index = pos 0 })) same;
      }
  | inr (j, at, there) ↦
      let later = IsBehind-at ts j x there in
      let before = later.behind in
      record {
        first = length (partitions_of t) + later.first;
        index = later.index;
        is_index = later.is_index;
        behind = omega arith;
        is_first = append-at (partitions_of t) (flat_map partitions_of ts) later.first _ later.is_first;
      }
]

-- the same of a board's place
pub record IsPlaceBehind (board : Board) (k : ℕ) (place : Place) : Type 0 where
  pub first : ℕ
  pub index : ℕ
  pub is_index : place.partition.index ≡ pos index
  pub behind : first + index ≡ k
  pub zeroth : Place
  pub is_zeroth : slice_get board.places.items first ≡ Some zeroth
  pub topic : zeroth.partition.topic ≡ place.partition.topic
  pub zero : zeroth.partition.index ≡ pos 0

-- where the partition is, by what is known of its topic
pub record IsKnown (firsts : BTreeMap (List ℕ) ℕ) (p : Partition) (k : ℕ) : Type 0 where
  pub first : ℕ
  pub index : ℕ
  pub is_index : p.index ≡ pos index
  pub behind : first + index ≡ k
  pub is_first : get text_cmp firsts p.topic ≡ Some first

module _ (board : Board) (is : IsBare board) where
  -- no two places have one partition
  pub places-apart : (j k : ℕ) (one other : Place) → slice_get board.places.items j ≡ Some one → slice_get board.places.items k ≡ Some other → one.partition ≡ other.partition → j ≡ k
  places-apart j k one other is_one is_other same =
      let here = part_at board is j one is_one in
      let there = part_at board is k other is_other in
      parts_are_apart board is j k (here.topic.0, one.partition) (there.topic.0, other.partition) here.is_part there.is_part same

  -- the place of a partition is its index behind its topic's first
  pub place-behind : (k : ℕ) (place : Place) → slice_get board.places.items k ≡ Some place → IsPlaceBehind board k place
  place-behind k place is_place =
      let here = part_at board is k place is_place in
      let behind = IsBehind-at (finite.entries board.view.now) k (here.topic.0, place.partition) here.is_part in
      let sum = behind.behind in
      let within = slice_get_within board.places.items k place is_place in
      let (zeroth, is_zeroth) = some_at board.places.items behind.first (omega arith) in
      let there = part_at board is behind.first zeroth is_zeroth in
      let same : (there.topic.0, zeroth.partition) ≡ (here.topic.0, record { topic = place.partition.topic; index = pos 0 }) = same_Some _ _ (rw (← there.is_part) behind.is_first) in
      record {
        first = behind.first;
        index = behind.index;
        is_index = behind.is_index;
        behind = sum;
        zeroth = zeroth;
        is_zeroth = is_zeroth;
        topic = ap (λ (y : Text × Partition). y.1.topic) same;
        zero = ap (λ (y : Text × Partition). y.1.index) same;
      }

  -- the first place of a partition's topic is known
  pub known-first : (firsts : BTreeMap (List ℕ) ℕ) → AreFirsts board.places.items firsts → (p : Partition) (k : ℕ) (place : Place) → slice_get board.places.items k ≡ Some place → place.partition ≡ p → IsKnown firsts p k
  known-first firsts are p k place is_place same =
      let behind = place-behind k place is_place in
      record {
        first = behind.first;
        index = behind.index;
        is_index = ap (λ (q : Partition). q.index) (sym same) ∙ behind.is_index;
        behind = behind.behind;
        is_first = ap (get text_cmp firsts) (ap (λ (q : Partition). q.topic) (sym same) ∙ sym behind.topic) ∙ are behind.first behind.zeroth behind.is_zeroth behind.zero;
      }

-- ---- what is behind a topic's first partition

abbrev zeroth_part : Text × Partition → ℕ → Text × Partition
zeroth_part x i = (x.0, record { topic = x.1.topic; index = pos i })

-- behind the first partition of a topic stand its others
record IsAhead (topics : List (Text × Topic)) (first i : ℕ) (x : Text × Partition) : Type 0 where
  topic : Text × Topic
  at : ℕ
  is_topic : slice_get topics at ≡ Some topic
  name : topic.0 ≡ x.0
  ahead : i < topic.1.count → slice_get (flat_map partitions_of topics) (first + i) ≡ Some (zeroth_part x i)

IsAhead-at : (topics : List (Text × Topic)) (first i : ℕ) (x : Text × Partition) → slice_get (flat_map partitions_of topics) first ≡ Some x → x.1.index ≡ pos 0 → IsAhead topics first i x
IsAhead-at [] first i x is zero = cc
IsAhead-at (t ∷ ts) first i x is zeroth = elim (slice_get-append_cases (partitions_of t) (flat_map partitions_of ts) first x is) [
  | inl here ↦
      let (n, is_n, same) = slice_get-map_from (part_of t) (range_with_len 0 t.1.count) first x here in
      let (at, low) = range-from t.1.count first n is_n in
      let none : n ≡ 0 = pos_inj n 0 (ap (λ (y : Text × Partition). y.1.index) same ∙ zeroth) in
      record {
        topic = t;
        at = 0;
        is_topic = refl;
        name = ap (λ (y : Text × Partition). y.0) same;
        ahead = λ few.
            ap (slice_get (partitions_of t ++ flat_map partitions_of ts)) (let sum : first + i ≡ i = omega arith in sum)
            ∙ slice_get-append_left (partitions_of t) (flat_map partitions_of ts) i (part_of t i) (slice_get-map_at (part_of t) (range_with_len 0 t.1.count) i i (range-at t.1.count i few))
            ∙ ap (λ (y : Text × Partition). Some (zeroth_part y i)) same;
      }
  | inr (j, at, there) ↦
      let later = IsAhead-at ts j i x there zeroth in
      record {
        topic = later.topic;
        at = suc later.at;
        is_topic = later.is_topic;
        name = later.name;
        ahead = λ few.
            ap (slice_get (partitions_of t ++ flat_map partitions_of ts)) (let sum : first + i ≡ length (partitions_of t) + (j + i) = omega arith in sum)
            ∙ append-at (partitions_of t) (flat_map partitions_of ts) (j + i) _ (later.ahead few);
      }
]

of_name : (view : Topics) (k : ℕ) (t : Text × Topic) → slice_get (finite.entries view) k ≡ Some t → finite.get view t.0 ≡ Some t.1
of_name view k t is =
    subst (λ (e : Text × Topic). finite.get view e.0 ≡ Some e.1) (get_or_from_slice_get (finite.entries view) k t t is) (get-at view k t (slice_get_within (finite.entries view) k t is))

-- a view has one topic of a name
one_topic : (view : Topics) (j k : ℕ) (s t : Text × Topic) → slice_get (finite.entries view) j ≡ Some s → slice_get (finite.entries view) k ≡ Some t → s.0 ≡ t.0 → s.1 ≡ t.1
one_topic view j k s t is_s is_t name = same_Some s.1 t.1 (sym (of_name view j s is_s) ∙ ap (finite.get view) name ∙ of_name view k t is_t)

-- the same of a board's places
pub place-ahead : (board : Board) → IsBare board → (first i : ℕ) (zeroth : Place) (t : Text × Topic) → slice_get board.places.items first ≡ Some zeroth → zeroth.partition.index ≡ pos 0
    → slice_get (finite.entries board.view.now) zeroth.topic ≡ Some t → i < t.1.count
    → (place : Place) × (slice_get board.places.items (first + i) ≡ Some place) × (place.partition ≡ record { topic = zeroth.partition.topic; index = pos i })
place-ahead board is first i zeroth t is_zeroth zero is_t few =
    let here = part_at board is first zeroth is_zeroth in
    let it = IsAhead-at (finite.entries board.view.now) first i (here.topic.0, zeroth.partition) here.is_part zero in
    let named : here.topic ≡ t = same_Some here.topic t (rw (← here.is_topic) is_t) in
    let same = one_topic board.view.now it.at zeroth.topic it.topic t it.is_topic is_t (it.name ∙ ap (λ (e : Text × Topic). e.0) named) in
    let counts = ap (λ (topic : Topic). topic.count) same in
    let is_part = it.ahead (omega arith) in
    let low = slice_get_within (in_partition_order board.view.now) (first + i) _ is_part in
    let many = as_many_places board is in
    let (place, is_place) = some_at board.places.items (first + i) (omega arith) in
    let there = part_at board is (first + i) place is_place in
    let one = same_Some (there.topic.0, place.partition) (zeroth_part (here.topic.0, zeroth.partition) i) (rw (← there.is_part) is_part) in
    (place, is_place, λ j. (one j).1)

-- ---- the first places

abbrev pub AreFirstsTo : List Place → ℕ → BTreeMap (List ℕ) ℕ → Type 0
AreFirstsTo places n firsts = (k : ℕ) (place : Place) → k < n → slice_get places k ≡ Some place → place.partition.index ≡ pos 0 → get text_cmp firsts place.partition.topic ≡ Some k

module _ (board : Board) (is : IsBare board) (n : ℕ) (here : Place) (is_here : slice_get board.places.items n ≡ Some here) (old new : BTreeMap (List ℕ) ℕ) (before : AreFirstsTo board.places.items n old) where
  pub AreFirstsTo-next : here.partition.index ≡ pos 0 → Updates text_cmp old new here.partition.topic (Some n) → AreFirstsTo board.places.items (n + 1) new
  AreFirstsTo-next zeroth updates k place low is_place index = updates.0 place.partition.topic ∙ (elim (is_eq (text_cmp here.partition.topic place.partition.topic)) as (λ b. is_eq (text_cmp here.partition.topic place.partition.topic) ≡ b → cond b (Some n) (get text_cmp old place.partition.topic) ≡ Some k) [
    | true ↦ λ tie.
        let topics = text_cmp-IsAntisymmetric here.partition.topic place.partition.topic ((Equal-is (text_cmp here.partition.topic place.partition.topic)).0 tie) in
        ap Some (places-apart board is n k here place is_here is_place (λ i. record { topic = topics i; index = (zeroth ∙ sym index) i }))
    | false ↦ λ away. elim (cases_lt k n) [
      | inl below ↦ before k place below is_place index
      | inr above ↦
          let last : n ≡ k = omega arith in
          let same : here ≡ place = same_Some here place (sym is_here ∙ ap (slice_get board.places.items) last ∙ is_place) in
          let itself = (Equal-is (text_cmp here.partition.topic place.partition.topic)).1 (ap (λ (p : Place). text_cmp here.partition.topic p.partition.topic) (sym same) ∙ text_cmp-itself here.partition.topic) in
          cc
    ]
  ] refl)

  pub AreFirstsTo-skip : (here.partition.index ≡ pos 0 → ⊥) → AreFirstsTo board.places.items (n + 1) old
  AreFirstsTo-skip away k place low is_place index = elim (cases_lt k n) [
    | inl below ↦ before k place below is_place index
    | inr above ↦
        let last : n ≡ k = omega arith in
        let same : here ≡ place = same_Some here place (sym is_here ∙ ap (slice_get board.places.items) last ∙ is_place) in
        absurd (away (ap (λ (p : Place). p.partition.index) same ∙ index))
  ]

-- an index as a number
pub index-read : {E : Type 0} (r : Result ℕ E) (z : ℤ) (i : ℕ) → z ≡ pos i → i < 2 ^ 64 → OkIff r (FitsUnsignedBits 64 z) (nat_abs z) → result_ok r ≡ Some i
index-read (Ok n) z i same low fits = ap Some (fits.1 ∙ ap nat_abs same)
index-read (Err e) z i same low fits = absurd (fits (subst (FitsUnsignedBits 64) (sym same) low))
