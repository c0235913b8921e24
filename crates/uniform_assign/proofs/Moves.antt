-- What can move, in the spread that a draft shows.
use Rattle.std.proofs.Common.{◌≡◌, ℕ, ◌<◌, ◌≤◌, ◌+◌, List, [], ◌∷◌, ◌++◌, length, get_or, set as set_at, refl, sym, ap, subst, ◌∙◌, arith, Option, Some, None, length-set}
use Rattle.std.specs.Global.{Vec}
use Rattle.std.specs.List.{slice_get}
use Rattle.std.proofs.lemmas.Option.{same_Some, slice_get_within}
use Rattle.group_types.specs.declared.partition.Partition.{Partition}
use Rattle.group_types.specs.Text.{Text}
use Rattle.group_types.specs.Topics.{Topics}
use Rattle.group_types.specs.Assignors.{Subscriber, subscribers_of}
use Rattle.group_types.specs.Owners.{Spread}
use Rattle.group_types.specs.Uniform.{AreMoves, IsFewest, IsLevel, IsNextMove, in_partition_order}
use Rattle.uniform_assign.specs.declared.board.Board.{Board}
use Rattle.uniform_assign.specs.declared.board.Place.{Place}
use Rattle.uniform_assign.specs.declared.draft.Draft.{Draft}
use Rattle.uniform_assign.specs.declared.level.Move.{Move}
use Rattle.uniform_assign.specs.Boards.{AreTakersOf, IsBoard, IsOfClass, members_on}
use Rattle.uniform_assign.specs.Drafts.{AreCounts, IsDraft, IsLeast, drawn_on}
use Rattle.uniform_assign.specs.Moves.{CanGive, IsFirst, IsGiversLimit, IsMove, IsNext}
use Rattle.uniform_assign.proofs.Boards.{as_many_places, at_place, here_taker, parts_are_apart, same_takers, taker_here}
use Rattle.uniform_assign.proofs.Shown.{can_give-owns, count-shown, owner-at}
use Rattle.uniform_assign.proofs.Drawn.{drawn-owner, drawn-set}
use Rattle.uniform_assign.proofs.Lists.{Contains-at, at_Contains, some_at}

-- a partition was given
pub IsDraft-give : (board : Board) (old new : Draft) (k : ℕ) (o : Option ℕ) → IsDraft board old → new.owners.items ≡ set_at old.owners.items k o → length new.counts.items ≡ length old.counts.items
    → AreCounts new.owners.items new.counts.items → IsDraft board new
IsDraft-give board old new k o are owners many counts = record {
  as_many_owners = ap length owners ∙ length-set old.owners.items k o ∙ are.as_many_owners;
  as_many_counts = many ∙ are.as_many_counts;
  counts = counts;
}

module _ (board : Board) (draft : Draft) (is : IsBoard board) (are : IsDraft board draft) where
  abbrev parts : List (Text × Partition)
  parts = in_partition_order board.view.now

  abbrev subs : List Subscriber
  subs = members_on board

  abbrev spread : Spread
  spread = drawn_on board draft.owners.items

  -- the least count is that of the member that owns the fewest
  pub fewest-shown : (name : Text) (takers : List ℕ) (m : ℕ) (s : Subscriber) → AreTakersOf subs name takers → IsLeast draft.counts.items takers m → slice_get subs m ≡ Some s
      → IsFewest spread (subscribers_of subs name) s
  fewest-shown name takers m s are_takers least is_s =
      let (t, is_t, there) = taker_here subs name takers least.place m are_takers least.is_there in
      let same : t ≡ s = same_Some t s (sym is_t ∙ is_s) in
      let mine = count-shown board draft is.bare are m s is_s in
      record {
        place = least.place;
        is_there = there ∙ ap Some same;
        fewest = λ k n is_n.
            let (j, is_j, there_n) = here_taker subs name takers k n are_takers is_n in
            let low = least.least k j is_j in
            let his = count-shown board draft is.bare are j n there_n in
            omega arith;
        first = λ k n early is_n.
            let (j, is_j, there_n) = here_taker subs name takers k n are_takers is_n in
            let low = least.first k j early is_j in
            let his = count-shown board draft is.bare are j n there_n in
            omega arith;
      }

  -- ---- a move

  pub move-taker : (m : Move) → IsMove board draft m → (x : Text × Partition) → slice_get parts m.partition ≡ Some x
      → (to : Subscriber) × (slice_get subs m.to ≡ Some to) × IsFewest spread (subscribers_of subs x.0) to
  move-taker m move x is_x =
      let at = at_place board is m.partition move.place move.is_place in
      let same_x : (at.topic.0, move.place.partition) ≡ x = same_Some _ x (sym at.is_part ∙ is_x) in
      let same : at.takers ≡ move.takers = same_takers board m.partition move.place at move.class move.takers move.is_class move.are_takers in
      let least = subst (λ (v : Vec ℕ). IsLeast draft.counts.items v.items m.to) (sym same) move.is_least in
      let (to, is_to, there) = taker_here subs at.topic.0 at.takers.items least.place m.to at.are_takers least.is_there in
      (to, is_to, subst (λ y. IsFewest spread (subscribers_of subs y.0) to) same_x (fewest-shown at.topic.0 at.takers.items m.to to at.are_takers least is_to))

  pub move-can : (m : Move) → IsMove board draft m → CanGive board draft m.from m.partition
  move-can m move =
      let at = at_place board is m.partition move.place move.is_place in
      let (owner, is_owner) = owner-at board draft is.bare are m.partition m.from move.owns in
      let (to, is_to, fewest) = move-taker m move (at.topic.0, move.place.partition) at.is_part in
      let mine = count-shown board draft is.bare are m.from owner is_owner in
      let his = count-shown board draft is.bare are m.to to is_to in
      let low = move.fewer in
      record {
        owner = owner;
        is_member = is_owner;
        moved = (at.topic.0, move.place.partition);
        is_partition = at.is_part;
        owns = drawn-owner subs parts draft.owners.items m.partition (at.topic.0, move.place.partition) m.from owner (parts_are_apart board is.bare) at.is_part move.owns is_owner;
        other = to;
        subscribes = Contains-at (subscribers_of subs at.topic.0) fewest.place to fewest.is_there;
        fewer = omega arith;
      }

  -- a partition without an owner cannot move, nor one that nobody takes, nor one whose takers own as many nearly
  pub no_owner-stays : (k : ℕ) → slice_get draft.owners.items k ≡ Some None → (from : ℕ) → ¬ CanGive board draft from k
  no_owner-stays k none from can = let owns = can_give-owns board draft is.bare are from k can in cc

  taker-of : (k from : ℕ) (place : Place) (class : ℕ) (takers : Vec ℕ) → slice_get board.places.items k ≡ Some place → slice_get board.classes.items place.topic ≡ Some class → slice_get board.takers.items class ≡ Some takers
      → (can : CanGive board draft from k) → (j t : ℕ) × (slice_get takers.items j ≡ Some t) × (slice_get subs t ≡ Some can.other)
  taker-of k from place class takers is_place is_class is_takers can =
      let at = at_place board is k place is_place in
      let same_x : (at.topic.0, place.partition) ≡ can.moved = same_Some _ can.moved (sym at.is_part ∙ can.is_partition) in
      let same : at.takers ≡ takers = same_takers board k place at class takers is_class is_takers in
      let (j, is_j) = at_Contains (subscribers_of subs can.moved.0) can.other can.subscribes in
      let (t, is_t, there) = here_taker subs at.topic.0 at.takers.items j can.other at.are_takers (ap (λ y. slice_get (subscribers_of subs y.0) j) same_x ∙ is_j) in
      (j, t, ap (λ (v : Vec ℕ). slice_get v.items j) (sym same) ∙ is_t, there)

  pub no_taker-stays : (k : ℕ) (place : Place) (class : ℕ) (takers : Vec ℕ) → slice_get board.places.items k ≡ Some place → slice_get board.classes.items place.topic ≡ Some class → slice_get board.takers.items class ≡ Some takers
      → takers.items ≡ [] → (from : ℕ) → ¬ CanGive board draft from k
  no_taker-stays k place class takers is_place is_class is_takers none from can =
      let (j, t, is_t, there) = taker-of k from place class takers is_place is_class is_takers can in
      let nowhere : slice_get [] j ≡ Some t = ap (λ xs. slice_get xs j) (sym none) ∙ is_t in
      nobody j t nowhere
    where
      nobody : (j t : ℕ) → slice_get [] j ≡ Some t → ⊥
      nobody j t is_t = cc

  pub near-stays : (k owner to : ℕ) (place : Place) (class : ℕ) (takers : Vec ℕ) → slice_get board.places.items k ≡ Some place → slice_get board.classes.items place.topic ≡ Some class → slice_get board.takers.items class ≡ Some takers
      → slice_get draft.owners.items k ≡ Some (Some owner) → IsLeast draft.counts.items takers.items to → get_or draft.counts.items owner 0 ≤ get_or draft.counts.items to 0 + 1
      → (from : ℕ) → ¬ CanGive board draft from k
  near-stays k owner to place class takers is_place is_class is_takers owns least near from can =
      let (j, t, is_t, there) = taker-of k from place class takers is_place is_class is_takers can in
      let same : owner ≡ from = same_Some owner from (same_Some (Some owner) (Some from) (sym owns ∙ can_give-owns board draft is.bare are from k can)) in
      let low = least.least j t is_t in
      let his = count-shown board draft is.bare are t can.other there in
      let mine = count-shown board draft is.bare are from can.owner can.is_member in
      let equal = ap (λ n. get_or draft.counts.items n 0) same in
      let fewer = can.fewer in
      omega arith

  -- a member within the limit gives nothing away
  pub poor-stays : (limit from : ℕ) → IsGiversLimit board draft.counts.items limit → get_or draft.counts.items from 0 ≤ limit → (k : ℕ) → ¬ CanGive board draft from k
  poor-stays limit from low few k can =
      let (place, is_place) = some_at board.places.items k (let in_parts = slice_get_within parts k can.moved can.is_partition in let many = as_many_places board is.bare in omega arith) in
      let at = at_place board is k place is_place in
      let (j, t, is_t, there) = taker-of k from place at.class at.takers is_place at.is_class at.are_there can in
      let below = low at.class j t at.takers at.are_there is_t in
      let his = count-shown board draft is.bare are t can.other there in
      let mine = count-shown board draft is.bare are from can.owner can.is_member in
      let fewer = can.fewer in
      omega arith

  -- a member can give any of its partitions of a class away, or none
  pub give-other : (from k at class : ℕ) → IsOfClass board k class → IsOfClass board at class → slice_get draft.owners.items at ≡ Some (Some from) → CanGive board draft from k → CanGive board draft from at
  give-other from k at class (one, is_one, class_one) (other, is_other, class_other) owns can =
      let there = at_place board is at other is_other in
      let (j, t, is_t, is_sub) = taker-of k from one there.class there.takers is_one (class_one ∙ sym class_other ∙ there.is_class) there.are_there can in
      let (m, is_m, taker) = taker_here subs there.topic.0 there.takers.items j t there.are_takers is_t in
      let same : m ≡ can.other = same_Some m can.other (sym is_m ∙ is_sub) in
      record {
        owner = can.owner;
        is_member = can.is_member;
        moved = (there.topic.0, other.partition);
        is_partition = there.is_part;
        owns = drawn-owner subs parts draft.owners.items at (there.topic.0, other.partition) from can.owner (parts_are_apart board is.bare) there.is_part owns can.is_member;
        other = can.other;
        subscribes = Contains-at (subscribers_of subs there.topic.0) j can.other (taker ∙ ap Some same);
        fewer = can.fewer;
      }

  -- ---- once every place was looked at

  pub can-within : (from k : ℕ) → CanGive board draft from k → k < length board.places.items
  can-within from k can = let low = slice_get_within parts k can.moved can.is_partition in let many = as_many_places board is.bare in omega arith

  pub no_move-level : IsNext board draft (length board.places.items) None → IsLevel board.view.now subs spread
  no_move-level none from k can = none from k (can-within from k can) can

  pub next_move : (m : Move) → IsFirst board draft (length board.places.items) m → IsNextMove board.view.now subs spread (drawn_on board (set_at draft.owners.items m.partition (Some m.to)))
  next_move m first =
      let can = move-can m first.is_move in
      let (to, is_to, fewest) = move-taker m first.is_move can.moved can.is_partition in
      let mine = count-shown board draft is.bare are m.from can.owner can.is_member in
      let owners = are.as_many_owners in
      let within = first.within in
      record {
        from = m.from;
        place = m.partition;
        move = can;
        most = λ i k other.
            let his = count-shown board draft is.bare are i other.owner other.is_member in
            let low = first.most i k (can-within i k other) other in
            omega arith;
        first_member = λ i k other early.
            let his = count-shown board draft is.bare are i other.owner other.is_member in
            let low = first.first_member i k (can-within i k other) other early in
            omega arith;
        first_partition = λ k other. first.first_partition k (can-within m.from k other) other;
        to = to;
        is_fewest = fewest;
        is_new = drawn-set subs parts draft.owners.items m.partition can.moved m.to to (parts_are_apart board is.bare) can.is_partition (omega arith) is_to;
      }

  pub move-to : (m : Move) → IsMove board draft m → (to : Subscriber) × (slice_get subs m.to ≡ Some to)
  move-to m move =
      let at = at_place board is m.partition move.place move.is_place in
      let (to, is_to, fewest) = move-taker m move (at.topic.0, move.place.partition) at.is_part in
      (to, is_to)

-- one move more
pub AreMoves-push : (view : Topics) (subs : List Subscriber) (old next new : Spread) (steps : List Spread) → AreMoves view subs old steps next → IsNextMove view subs next new → AreMoves view subs old (steps ++ new ∷ []) new
AreMoves-push view subs old next new [] same move = (subst (λ s. IsNextMove view subs s new) same move, refl)
AreMoves-push view subs old next new (first ∷ later) (first_move, moves) move = (first_move, AreMoves-push view subs first next new later moves move)
