use Rattle.std.proofs.Common.{◌≡◌, ◌<◌, ◌≤◌, ◌+◌, ℕ, List, length, get_or, refl, sym, ap, subst, ◌∙◌, arith, Option, Some, None}
use Rattle.std.specs.Global.{Vec}
use Rattle.std.specs.List.{slice_get}
use Rattle.std.proofs.lemmas.List.{get_or_read, length-map, nil_from_length}
use Rattle.std.proofs.lemmas.Option.{same_Some, slice_get_read, slice_get_within}
use Rattle.uniform_assign.specs.declared.board.Board.{Board}
use Rattle.uniform_assign.specs.declared.draft.Draft.{Draft}
use Rattle.uniform_assign.specs.declared.count_set.Rank.{Rank}
use Rattle.uniform_assign.specs.Boards.{IsBoard, IsOfClass}
use Rattle.uniform_assign.specs.Drafts.{IsDraft, IsLeast}
use Rattle.uniform_assign.specs.Moves.{IsMoveOf}
use Rattle.uniform_assign.specs.CountSets.{AreCountSets, IsFirstRankOf, counts_of}
use Rattle.uniform_assign.proofs.Counts.{count-le}
use Rattle.uniform_assign.proofs.Lists.{some_at}
use Rattle.uniform_assign.proofs.Moves.{near-stays, no_owner-stays, no_taker-stays}
use Rattle.uniform_assign.proofs.Queued.{IsFirstTaker, IsFirstTaker-of}
use Rattle.uniform_assign.proofs.board.Board.move_of.Goals as goal

-- the place that was read
read : {X : Type 0} (xs : List X) (k : ℕ) (x : X) → k < length xs → x ≡ get_or xs k x → slice_get xs k ≡ Some x
read xs k x within is = slice_get_read xs (length xs) k x refl within is

-- the takers of the class whose set was read, and the first of them
record IsRead (board : Board) (draft : Draft) (class : ℕ) (o : Option Rank) : Type 0 where
  takers : Vec ℕ
  are_takers : slice_get board.takers.items class ≡ Some takers
  first : IsFirstRankOf (counts_of draft.counts.items takers.items) o

IsRead-of : (board : Board) (draft : Draft) (sets : List (List ℕ)) (class : ℕ) (set : List ℕ) (o : Option Rank) → AreCountSets board draft.counts.items sets → class < length board.takers.items
    → set ≡ get_or sets class set → IsFirstRankOf set o → IsRead board draft class o
IsRead-of board draft sets class set o are low is first =
    let (takers, is_takers) = some_at board.takers.items class low in
    let many = are.as_many in
    let is_set = read sets class set (omega arith) is in
    record { takers = takers; are_takers = is_takers; first = subst (λ (xs : List ℕ). IsFirstRankOf xs o) (are.each class takers set is_takers is_set) first }

module _ (board : Board) (draft : Draft) (is : IsBoard board) (are : IsDraft board draft) (at class : ℕ) (of_class : IsOfClass board at class) where
  nobody : IsRead board draft class None → IsMoveOf board draft at None
  nobody read =
      let (place, is_place, is_class) = of_class in
      let none = ap length read.first in
      let long = length-map read.takers.items (λ u. get_or draft.counts.items u 0) in
      no_taker-stays board draft is are at place class read.takers is_place is_class read.are_takers (nil_from_length read.takers.items (omega arith))

  first_taker : (rank : Rank) → (read : IsRead board draft class (Some rank)) → IsFirstTaker draft read.takers.items rank
  first_taker rank read = IsFirstTaker-of board draft is are class read.takers rank read.are_takers read.first

  stays : (from : ℕ) (rank : Rank) → slice_get draft.owners.items at ≡ Some (Some from) → IsRead board draft class (Some rank) → get_or draft.counts.items from 0 ≤ rank.count + 1 → IsMoveOf board draft at None
  stays from rank owns read near =
      let (place, is_place, is_class) = of_class in
      let first = first_taker rank read in
      let count = first.count in
      near-stays board draft is are at from first.member place class read.takers is_place is_class read.are_takers owns first.least (omega arith)

  moves : (from to : ℕ) (rank : Rank) → slice_get draft.owners.items at ≡ Some (Some from) → (read : IsRead board draft class (Some rank)) → slice_get read.takers.items rank.place ≡ Some to → rank.count + 1 < get_or draft.counts.items from 0
      → IsMoveOf board draft at (Some (record { partition = at; from = from; to = to }))
  moves from to rank owns read is_to fewer =
      let (place, is_place, is_class) = of_class in
      let first = first_taker rank read in
      let same : first.member ≡ to = same_Some first.member to (sym first.is_member ∙ is_to) in
      let count = first.count ∙ ap (λ m. get_or draft.counts.items m 0) same in (
        refl,
        record {
          owns = owns;
          place = place;
          is_place = is_place;
          class = class;
          is_class = is_class;
          takers = read.takers;
          are_takers = read.are_takers;
          is_least = subst (IsLeast draft.counts.items read.takers.items) same first.least;
          fewer = omega arith;
        },
      )

pub returns-in_err-from : goal.returns-in_err-from
returns-in_err-from c =
    let owners = c.args.draft.now.owners.items in
    let within : c.args.at < length owners = let many = c.requires.draft.as_many_owners in let low = c.requires.within in omega arith in
    subst (IsMoveOf c.args.self.now c.args.draft.now c.args.at) (sym c.from_residual.ensures)
    (no_owner-stays c.args.self.now c.args.draft.now c.requires.board c.requires.draft c.args.at (read owners c.args.at c.index.result.now within c.index.ensures ∙ ap Some c.in_err-from.was))

pub returns-in_err-first : goal.returns-in_err-first
returns-in_err-first c =
    let board = c.args.self.now in
    let draft = c.args.draft.now in
    let class = c.class_at-class.result in
    let set = c.index-sets-class.result in
    let is_read = IsRead-of board draft c.args.sets.now class set None c.requires.sets c.class_at-class.ensures.below c.index-sets-class.is c.in_err-first.ensures in
    subst (IsMoveOf board draft c.args.at) (sym c.from_residual-in_err-first.ensures) (nobody board draft c.requires.board c.requires.draft c.args.at class c.class_at-class.ensures.class is_read)

pub overflow_add-first : goal.overflow_add-first
overflow_add-first c =
    let board = c.args.self.now in
    let draft = c.args.draft.now in
    let class = c.class_at-class.result in
    let set = c.index-sets-class.result in
    let rank = c.in_ok-first.first in
    let is_read = IsRead-of board draft c.args.sets.now class set (Some rank) c.requires.sets c.class_at-class.ensures.below c.index-sets-class.is c.in_ok-first.ensures in
    let first = first_taker board draft c.requires.board c.requires.draft c.args.at class c.class_at-class.ensures.class rank is_read in
    let few = count-le draft.owners.items draft.counts.items first.member c.requires.draft.counts first.within in
    let count = first.count in
    let ok = draft.owners.ok in
    let small = draft.owners.small in
    omega arith

pub index-requires-2 : goal.index-requires-2
index-requires-2 c =
    let draft = c.args.draft.now in
    let owners = draft.owners.items in
    let within : c.args.at < length owners = let many = c.requires.draft.as_many_owners in let low = c.requires.within in omega arith in
    let low = c.requires.draft.counts.within c.args.at c.in_ok-from.from (read owners c.args.at c.index.result.now within c.index.ensures ∙ ap Some c.in_ok-from.was) in
    let ok = draft.counts.ok in
    omega arith

pub index-requires-then-first-index-2 : goal.index-requires-then-first-index-2
index-requires-then-first-index-2 c =
    let board = c.args.self.now in
    let draft = c.args.draft.now in
    let class = c.class_at-class.result in
    let set = c.index-sets-class.result in
    let rank = c.in_ok-first.first in
    let is_read = IsRead-of board draft c.args.sets.now class set (Some rank) c.requires.sets c.class_at-class.ensures.below c.index-sets-class.is c.in_ok-first.ensures in
    let first = first_taker board draft c.requires.board c.requires.draft c.args.at class c.class_at-class.ensures.class rank is_read in
    let v = c.index-then-first-index.result.now in
    let is_v = read board.takers.items class v c.class_at-class.ensures.below c.index-then-first-index.ensures in
    let same : is_read.takers ≡ v = same_Some is_read.takers v (sym is_read.are_takers ∙ is_v) in
    let inside = slice_get_within is_read.takers.items rank.place first.member first.is_member in
    let longs = ap (λ (w : Vec ℕ). length w.items) same in
    let ok = v.ok in
    omega arith

pub returns-then-first-index : goal.returns-then-first-index
returns-then-first-index c =
    let board = c.args.self.now in
    let draft = c.args.draft.now in
    let owners = draft.owners.items in
    let class = c.class_at-class.result in
    let set = c.index-sets-class.result in
    let rank = c.in_ok-first.first in
    let is_read = IsRead-of board draft c.args.sets.now class set (Some rank) c.requires.sets c.class_at-class.ensures.below c.index-sets-class.is c.in_ok-first.ensures in
    let first = first_taker board draft c.requires.board c.requires.draft c.args.at class c.class_at-class.ensures.class rank is_read in
    let v = c.index-then-first-index.result.now in
    let to = c.index-then-first-index-2.result.now in
    let is_v = read board.takers.items class v c.class_at-class.ensures.below c.index-then-first-index.ensures in
    let same : is_read.takers ≡ v = same_Some is_read.takers v (sym is_read.are_takers ∙ is_v) in
    let inside = slice_get_within is_read.takers.items rank.place first.member first.is_member in
    let longs = ap (λ (w : Vec ℕ). length w.items) same in
    let is_to = ap (λ (w : Vec ℕ). slice_get w.items rank.place) same ∙ read v.items rank.place to (omega arith) c.index-then-first-index-2.ensures in
    let within : c.args.at < length owners = let many = c.requires.draft.as_many_owners in let low = c.requires.within in omega arith in
    let owns = read owners c.args.at c.index.result.now within c.index.ensures ∙ ap Some c.in_ok-from.was in
    let from_in = c.requires.draft.counts.within c.args.at c.in_ok-from.from owns in
    let mine = get_or_read draft.counts.items c.in_ok-from.from c.index-2.result.now from_in c.index-2.ensures 0 in
    let fewer = c.if-first-index.true in
    moves board draft c.requires.board c.requires.draft c.args.at class c.class_at-class.ensures.class c.in_ok-from.from to rank owns is_read is_to (omega arith)

pub returns-else-first-index : goal.returns-else-first-index
returns-else-first-index c =
    let board = c.args.self.now in
    let draft = c.args.draft.now in
    let owners = draft.owners.items in
    let class = c.class_at-class.result in
    let set = c.index-sets-class.result in
    let rank = c.in_ok-first.first in
    let is_read = IsRead-of board draft c.args.sets.now class set (Some rank) c.requires.sets c.class_at-class.ensures.below c.index-sets-class.is c.in_ok-first.ensures in
    let within : c.args.at < length owners = let many = c.requires.draft.as_many_owners in let low = c.requires.within in omega arith in
    let owns = read owners c.args.at c.index.result.now within c.index.ensures ∙ ap Some c.in_ok-from.was in
    let from_in = c.requires.draft.counts.within c.args.at c.in_ok-from.from owns in
    let mine = get_or_read draft.counts.items c.in_ok-from.from c.index-2.result.now from_in c.index-2.ensures 0 in
    let near = c.if-first-index.false in
    stays board draft c.requires.board c.requires.draft c.args.at class c.class_at-class.ensures.class c.in_ok-from.from rank owns is_read (omega arith)
