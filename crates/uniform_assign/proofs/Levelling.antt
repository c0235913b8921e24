-- A spread can be levelled: where a partition can move, one move follows, and each makes the squares of the counts
-- smaller together.
use Rattle.std.proofs.Common.{◌≡◌, ◌⊎◌, ◌==◌, ℕ, zero, suc, ◌<◌, ◌+◌, true, false, cond, List, [], ◌∷◌, map, length, get_or, refl, sym, ap, subst, ◌∙◌, arith, inl, inr, Option, Some, None}
use Rattle.std.specs.FinMap as finite
use Rattle.std.specs.List.{Contains, slice_get}
use Rattle.std.specs.Ordering.{eq_by_cmp}
use Rattle.std.proofs.lemmas.Bool.{cases_lt}
use Rattle.std.proofs.lemmas.List.{ext_get_or, get_or-map, length-map}
use Rattle.std.proofs.lemmas.Option.{get_or_from_slice_get, same_Some, slice_get-get_or, slice_get_within}
use Rattle.group_types.specs.declared.partition.Partition.{Partition}
use Rattle.group_types.specs.Text.{Text, text_cmp}
use Rattle.group_types.specs.Partition.{partition_cmp}
use Rattle.group_types.specs.Topics.{Topics}
use Rattle.group_types.specs.Assignors.{IdsAreApart, Subscriber, subscribers_of}
use Rattle.group_types.specs.Owners.{Spread}
use Rattle.group_types.specs.Uniform.{CanMove, IsLevel, IsNextMove, count, in_partition_order}
use Rattle.group_types.proofs.Orders.{partition_cmp_total}
use Rattle.range_assign.proofs.Dealt.{place_of_subscriber}
use Rattle.uniform_assign.specs.Drafts.{IsLevelled}
use Rattle.uniform_assign.specs.Moves.{one_moved}
use Rattle.uniform_assign.proofs.Choices.{Decided, IsEarliest, IsHeaviest, decided_has, first_below, heaviest_below}
use Rattle.uniform_assign.proofs.Counted.{count-insert, same_ids}
use Rattle.uniform_assign.proofs.Counts.{length-one_moved, one_moved-at, squares, squares_fall}
use Rattle.uniform_assign.proofs.Filling.{fewest_among}
use Rattle.uniform_assign.proofs.Keeping.{decided_text}
use Rattle.uniform_assign.proofs.Lists.{Contains-at, some_at}
use Rattle.uniform_assign.proofs.Owners.{cases_partition, get-insert_other, get-insert_same, same_owners, same_tied, tied_is}

-- ---- the move that follows

decided_less : (m n : ℕ) → Decided (m < n)
decided_less m n = elim (cases_lt m n) [ inl less ↦ inl less | inr more ↦ inr (λ less. omega arith) ]

module _ (view : Topics) (subs : List Subscriber) (spread : Spread) where
  abbrev parts : List (Text × Partition)
  parts = in_partition_order view

  -- what a move is, where the member and the partition at its places are known
  move_with : (from place : ℕ) (owner : Subscriber) (x : Text × Partition) → slice_get subs from ≡ Some owner → slice_get parts place ≡ Some x → finite.get spread x.1 ≡ Some owner.id
      → Decided (CanMove view subs spread from place)
  move_with from place owner x is_owner is_x owns =
      elim (decided_has (λ other. count spread other.id + 1 < count spread owner.id) (λ other. decided_less (count spread other.id + 1) (count spread owner.id)) (subscribers_of subs x.0)) [
        | inl other ↦ inl (record {
          owner = owner;
          is_member = is_owner;
          moved = x;
          is_partition = is_x;
          owns = owns;
          other = other.element;
          subscribes = Contains-at (subscribers_of subs x.0) other.place other.element other.is_there;
          fewer = other.has;
        })
        | inr none ↦ inr (λ can.
            let owners : can.owner ≡ owner = same_Some can.owner owner (sym can.is_member ∙ is_owner) in
            let moved : can.moved ≡ x = same_Some can.moved x (sym can.is_partition ∙ is_x) in
            let among : Contains (subscribers_of subs x.0) can.other = subst (λ y. Contains (subscribers_of subs y.0) can.other) moved can.subscribes in
            none (record {
              place = among.0;
              element = can.other;
              is_there = slice_get-get_or (subscribers_of subs x.0) among.0 can.other among.1 ∙ ap Some among.2;
              has = subst (λ (o : Subscriber). count spread can.other.id + 1 < count spread o.id) owners can.fewer;
            }))
      ]

  -- the partition is the member's or it isn't
  move_of : (from place : ℕ) (owner : Subscriber) (x : Text × Partition) (o : Option Text) → slice_get subs from ≡ Some owner → slice_get parts place ≡ Some x → finite.get spread x.1 ≡ o
      → Decided (CanMove view subs spread from place)
  move_of from place owner x None is_owner is_x none = inr (λ can.
      let moved : can.moved ≡ x = same_Some can.moved x (sym can.is_partition ∙ is_x) in
      let owned : None ≡ Some can.owner.id = sym none ∙ ap (λ y. finite.get spread y.1) (sym moved) ∙ can.owns in
      cc)
  move_of from place owner x (Some id) is_owner is_x owned = elim (decided_text id owner.id) [
    | inl same ↦ move_with from place owner x is_owner is_x (owned ∙ ap Some same)
    | inr apart ↦ inr (λ can.
        let owners : can.owner ≡ owner = same_Some can.owner owner (sym can.is_member ∙ is_owner) in
        let moved : can.moved ≡ x = same_Some can.moved x (sym can.is_partition ∙ is_x) in
        apart (same_Some id can.owner.id (sym owned ∙ ap (λ y. finite.get spread y.1) (sym moved) ∙ can.owns) ∙ ap (λ (o : Subscriber). o.id) owners))
  ]

  move_from : (from place : ℕ) (owner : Subscriber) (o : Option (Text × Partition)) → slice_get subs from ≡ Some owner → slice_get parts place ≡ o → Decided (CanMove view subs spread from place)
  move_from from place owner None is_owner none = inr (λ can. let is = can.is_partition in cc)
  move_from from place owner (Some x) is_owner is_x = move_of from place owner x (finite.get spread x.1) is_owner is_x refl

  decided_move : (from place : ℕ) → Decided (CanMove view subs spread from place)
  decided_move from place =
      elim (slice_get subs from) as (λ o. slice_get subs from ≡ o → Decided (CanMove view subs spread from place)) [
        | None ↦ λ none. inr (λ can. let is = can.is_member in cc)
        | Some owner ↦ λ is_owner. move_from from place owner (slice_get parts place) is_owner refl
      ] refl

  -- the first partition that the member at a place can give away
  abbrev Gives : ℕ → Type 0
  Gives from = (place : ℕ) × IsEarliest (CanMove view subs spread from) (length parts) place

  can_within : (from place : ℕ) → CanMove view subs spread from place → place < length parts
  can_within from place can = slice_get_within parts place can.moved can.is_partition

  decided_gives : (from : ℕ) → Decided (Gives from)
  decided_gives from = elim (first_below (CanMove view subs spread from) (decided_move from) (length parts)) [
    | inl gives ↦ inl gives
    | inr none ↦ inr (λ (place, is). none place is.below is.there)
  ]

  gives_of : (from place : ℕ) → CanMove view subs spread from place → Gives from
  gives_of from place can = elim (first_below (CanMove view subs spread from) (decided_move from) (length parts)) [
    | inl gives ↦ gives
    | inr none ↦ absurd (none place (can_within from place can) can)
  ]

  abbrev count_of : Option Subscriber → ℕ
  count_of None = 0
  count_of (Some m) = count spread m.id

  count_at : (from : ℕ) (m : Subscriber) → slice_get subs from ≡ Some m → count_of (slice_get subs from) ≡ count spread m.id
  count_at from m is = ap count_of is

  move_that_follows : (from : ℕ) → IsHeaviest Gives (λ i. count_of (slice_get subs i)) (length subs) from → (new : Spread) × IsNextMove view subs spread new
  move_that_follows from is =
      let (place, earliest) = is.there in
      let can = earliest.there in
      let (to, fewest) = fewest_among spread (subscribers_of subs can.moved.0) can.other can.subscribes in
      let mine = count_at from can.owner can.is_member in (
        finite.insert spread can.moved.1 to.id,
        record {
          from = from;
          place = place;
          move = can;
          most = λ i k other.
              let his = count_at i other.owner other.is_member in
              let low = is.most i (slice_get_within subs i other.owner other.is_member) (gives_of i k other) in
              omega arith;
          first_member = λ i k other early.
              let his = count_at i other.owner other.is_member in
              let low = is.first i early (gives_of i k other) in
              omega arith;
          first_partition = λ k other. elim (cases_lt k place) [ inl early ↦ absurd (earliest.first k early other) | inr late ↦ late ];
          to = to;
          is_fewest = fewest;
          is_new = refl;
        },
      )

  next_or_level : ((new : Spread) × IsNextMove view subs spread new) ⊎ IsLevel view subs spread
  next_or_level = elim (heaviest_below Gives decided_gives (λ i. count_of (slice_get subs i)) (length subs)) [
    | inl (from, is) ↦ inl (move_that_follows from is)
    | inr none ↦ inr (λ from place can. none from (slice_get_within subs from can.owner can.is_member) (gives_of from place can))
  ]

-- ---- the counts after a move

module _ (spread : Spread) (p : Partition) (owner : Text) (owned : finite.get spread p ≡ Some owner) where
  abbrev rest : Spread
  rest = finite.remove spread p

  rest_has_not : finite.get rest p ≡ None
  rest_has_not = finite.get-remove partition_cmp_total spread p p ∙ ap (λ b. cond b None (finite.get spread p)) (same_tied p p refl)

  -- whoever owns the partition, the others have their owners
  given_again : (id : Text) → finite.insert spread p id ≡ finite.insert rest p id
  given_again id = same_owners _ _ (λ q. elim (cases_partition q p) [
    | inl same ↦ get-insert_same spread p q id same ∙ sym (get-insert_same rest p q id same)
    | inr apart ↦ get-insert_other spread p q id apart ∙ sym (get-insert_other rest p q id apart ∙ get-removed_other q apart)
  ])
    where
      get-removed_other : (q : Partition) → (q ≡ p → ⊥) → finite.get rest q ≡ finite.get spread q
      get-removed_other q apart =
          finite.get-remove partition_cmp_total spread p q
          ∙ ap (λ b. cond b None (finite.get spread q)) (
          elim (eq_by_cmp partition_cmp q p) as (λ b. eq_by_cmp partition_cmp q p ≡ b → b ≡ false) [
            | true ↦ λ tie. absurd (apart (tied_is q p tie))
            | false ↦ λ other. refl
          ] refl
          )

  as_it_is : finite.insert spread p owner ≡ spread
  as_it_is = same_owners _ _ (λ q. elim (cases_partition q p) [
    | inl same ↦ get-insert_same spread p q owner same ∙ sym (ap (finite.get spread) same ∙ owned)
    | inr apart ↦ get-insert_other spread p q owner apart
  ])

  -- the owner has one partition less, and the new one has one more
  pub count-moved : (id m : Text) → count (finite.insert spread p id) m + cond (eq_by_cmp text_cmp m owner) 1 0 ≡ count spread m + cond (eq_by_cmp text_cmp m id) 1 0
  count-moved id m =
      let after : count (finite.insert spread p id) m ≡ count rest m + cond (eq_by_cmp text_cmp m id) 1 0 = ap (λ s. count s m) (given_again id) ∙ count-insert rest p id m rest_has_not in
      let before : count spread m ≡ count rest m + cond (eq_by_cmp text_cmp m owner) 1 0 = ap (λ s. count s m) (sym as_it_is ∙ given_again owner) ∙ count-insert rest p owner m rest_has_not in
      omega arith

-- ---- the squares fall

module _ (view : Topics) (subs : List Subscriber) (apart : IdsAreApart subs) where
  -- the members' counts
  abbrev counts_in : Spread → List ℕ
  counts_in spread = map (λ m. count spread m.id) subs

  counted : (spread : Spread) (k : ℕ) (m : Subscriber) → slice_get subs k ≡ Some m → get_or (counts_in spread) k 0 ≡ count spread m.id
  counted spread k m is =
      get_or-map (λ (m : Subscriber). count spread m.id) subs k m 0 (slice_get_within subs k m is)
      ∙ ap (λ (m : Subscriber). count spread m.id) (get_or_from_slice_get subs k m m is)

  moved_counts : (spread : Spread) (p : Partition) (from to : ℕ) (owner taker : Subscriber) → slice_get subs from ≡ Some owner → slice_get subs to ≡ Some taker → finite.get spread p ≡ Some owner.id
      → 0 < count spread owner.id → counts_in (finite.insert spread p taker.id) ≡ one_moved (counts_in spread) from to
  moved_counts spread p from to owner taker is_owner is_taker owned some =
      let new = finite.insert spread p taker.id in
      let long_new = length-map subs (λ (m : Subscriber). count new m.id) in
      let long = length-map subs (λ (m : Subscriber). count spread m.id) in
      let from_in = slice_get_within subs from owner is_owner in
      let to_in = slice_get_within subs to taker is_taker in
      let mine = counted spread from owner is_owner in
      ext_get_or 0 (counts_in new) (one_moved (counts_in spread) from to) (long_new ∙ sym (length-one_moved (counts_in spread) from to ∙ long)) (λ k within.
      let (m, is_m) = some_at subs k (omega arith) in
      let after = counted new k m is_m in
      let before = counted spread k m is_m in
      let moved = one_moved-at (counts_in spread) from to k (omega arith) (omega arith) (omega arith) in
      let change = count-moved spread p owner.id owned taker.id m.id in
      let gives : cond {A = ℕ} (eq_by_cmp text_cmp m.id owner.id) 1 0 ≡ cond {A = ℕ} (from == k) 1 0 = ap (λ b. cond b 1 0) (same_ids subs apart from k owner m is_owner is_m) in
      let takes : cond {A = ℕ} (eq_by_cmp text_cmp m.id taker.id) 1 0 ≡ cond {A = ℕ} (to == k) 1 0 = ap (λ b. cond b 1 0) (same_ids subs apart to k taker m is_taker is_m) in
      omega arith)

  falls : (spread new : Spread) → IsNextMove view subs spread new → squares (counts_in new) < squares (counts_in spread)
  falls spread new next =
      let can = next.move in
      let taker = place_of_subscriber subs can.moved.0 next.is_fewest.place next.to next.is_fewest.is_there in
      let few = next.is_fewest.fewest can.subscribes.0 can.other (slice_get-get_or (subscribers_of subs can.moved.0) can.subscribes.0 can.other can.subscribes.1 ∙ ap Some can.subscribes.2) in
      let fewer = can.fewer in
      let mine = counted spread next.from can.owner can.is_member in
      let his = counted spread taker.0 next.to taker.1 in
      let from_in = slice_get_within subs next.from can.owner can.is_member in
      let to_in = slice_get_within subs taker.0 next.to taker.1 in
      let long = length-map subs (λ (m : Subscriber). count spread m.id) in
      let counts : counts_in new ≡ one_moved (counts_in spread) next.from taker.0 =
      ap counts_in next.is_new ∙ moved_counts spread can.moved.1 next.from taker.0 can.owner next.to can.is_member taker.1 can.owns (omega arith) in
      subst (λ xs. squares xs < squares (counts_in spread)) (sym counts) (squares_fall (counts_in spread) next.from taker.0 (omega arith) (omega arith) (omega arith))

  levelled : (n : ℕ) (spread : Spread) → squares (counts_in spread) < n → (new : Spread) × IsLevelled view subs spread new
  levelled zero spread low = absurd (omega arith)
  levelled (suc n) spread low = elim (next_or_level view subs spread) [
    | inl (next, move) ↦
        let less = falls spread next move in
        let (new, later) = levelled n next (omega arith) in
        (new, record { steps = next ∷ later.steps; are_moves = (move, later.are_moves); is_level = later.is_level })
    | inr level ↦ (spread, record { steps = []; are_moves = refl; is_level = level })
  ]

  pub levels : (spread : Spread) → (new : Spread) × IsLevelled view subs spread new
  levels spread = levelled (suc (squares (counts_in spread))) spread (omega arith)
