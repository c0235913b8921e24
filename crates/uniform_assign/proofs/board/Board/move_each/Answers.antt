use Rattle.std.proofs.Common.{◌≡◌, ◌<◌, ℕ, ap, List, [], ◌∷◌, ◌++◌, length, slice_set, refl, sym, subst, arith, Some, get_or, length-set}
use Rattle.std.proofs.lemmas.Option.{slice_get_read, slice_get_within}
use Rattle.group_types.specs.Owners.{Spread}
use Rattle.group_types.specs.Uniform.{AreMoves}
use Rattle.uniform_assign.specs.Drafts.{drawn_on}
use Rattle.uniform_assign.specs.Moves.{IsFirst, IsNext}
use Rattle.uniform_assign.specs.Orders.{IsOrder}
use Rattle.uniform_assign.specs.CountSets.{AreCountSets}
use Rattle.uniform_assign.specs.Seats.{AreSeatsOf}
use Rattle.std.proofs.lemmas.List.{get_or_read}
use Rattle.uniform_assign.proofs.Counts.{moved-again, squares, squares_fall}
use Rattle.uniform_assign.proofs.Ordered.{order-room}
use Rattle.uniform_assign.proofs.Seated.{AreSeatsOf-listed}
use Rattle.uniform_assign.proofs.Moves.{AreMoves-push, IsDraft-give, move-to, next_move, no_move-level}
use Rattle.uniform_assign.proofs.board.Board.move_each.Goals as goal
use Rattle.uniform_assign.specs.Boards.{members_on}

pub loop-piles-init : goal.loop-piles-init
loop-piles-init c = (
  c.requires.draft,
  ([], refl),
  c.in_ok-piles.ensures,
  c.requires.sets,
  subst (λ (xs : List ℕ). IsOrder xs c.in_ok-order.order) c.deref.ensures.value c.in_ok-order.ensures,
)

pub give-requires : goal.give-requires
give-requires c =
    let board = c.args.self.now in
    let draft = c.loop-piles.draft in
    let m = c.in-Some.next in
    let is_draft = c.loop-piles.invariant.0 in
    let first : IsFirst board draft (length board.places.items) m = subst (IsNext board draft (length board.places.items)) c.in-Some.is c.in_ok-next.ensures.next in
    let (to, is_to) = move-to board draft c.requires.board is_draft m first.is_move in
    let low = slice_get_within (members_on board) m.to to is_to in
    let many = is_draft.as_many_counts in
    record {
      partition_in = slice_get_within draft.owners.items m.partition (Some m.from) first.is_move.owns;
      member_in = omega arith;
      counts = is_draft.counts;
    }

pub gain-requires-clause-member : goal.gain-requires-clause-member
gain-requires-clause-member c =
    let board = c.args.self.now in
    let draft = c.loop-piles.draft in
    let m = c.in-Some.next in
    let is_draft = c.loop-piles.invariant.0 in
    let first : IsFirst board draft (length board.places.items) m = subst (IsNext board draft (length board.places.items)) c.in-Some.is c.in_ok-next.ensures.next in
    let (to, is_to) = move-to board draft c.requires.board is_draft m first.is_move in
    let low = slice_get_within (members_on board) m.to to is_to in
    let many = is_draft.as_many_counts in
    let hands = c.in_ok-next.ensures.piles.as_many in
    let ok = c.next_move.new.piles.hands.ok in
    omega arith

pub gain-requires-clause-within : goal.gain-requires-clause-within
gain-requires-clause-within c =
    let board = c.args.self.now in
    let draft = c.loop-piles.draft in
    let first : IsFirst board draft (length board.places.items) c.in-Some.next = subst (IsNext board draft (length board.places.items)) c.in-Some.is c.in_ok-next.ensures.next in
    first.within

pub loop-piles-preserved : goal.loop-piles-preserved
loop-piles-preserved c =
    let board = c.args.self.now in
    let view = board.view.now in
    let subs = members_on board in
    let draft = c.loop-piles.draft in
    let m = c.in-Some.next in
    let (is_draft, (steps, moves), are, ranked, ordered) = c.loop-piles.invariant in
    let first : IsFirst board draft (length board.places.items) m = subst (IsNext board draft (length board.places.items)) c.in-Some.is c.in_ok-next.ensures.next in
    let next = next_move board draft c.requires.board is_draft m first in
    let given = slice_set draft.owners.items m.partition (Some m.to) in
    let before = drawn_on board c.args.draft.now.owners.items in (
      IsDraft-give board draft c.give.new.self m.partition (Some m.to) is_draft c.give.ensures.owners c.give.ensures.as_many c.give.ensures.counts,
      subst (λ os. (steps : List Spread) × AreMoves view subs before steps (drawn_on board os)) (sym c.give.ensures.owners)
          (steps ++ drawn_on board given ∷ [], AreMoves-push view subs before (drawn_on board draft.owners.items) (drawn_on board given) steps moves next),
      c.in_ok-gain.ensures draft c.give.new.self c.in_ok-next.ensures.piles c.give.ensures.as_many c.give.ensures.owners,
      let counts = draft.counts.items in
          let new = c.give.new.self.counts.items in
          let (to, is_to) = move-to board draft c.requires.board is_draft m first.is_move in
          let low = slice_get_within (members_on board) m.to to is_to in
          let many = is_draft.as_many_counts in
          let from_in = is_draft.counts.within m.partition m.from first.is_move.owns in
          let as_many = c.give.ensures.as_many in
          let fewer = first.is_move.fewer in
          let apart : m.to ≡ m.from → ⊥ = λ same. let equal = ap (λ n. get_or counts n 0) same in omega arith in
          let one = c.index-in-Some.result.now in
          let two = c.index-in-Some-3.result.now in
          let is_one = get_or_read new m.from one (omega arith) c.index-in-Some.ensures 0 in
          let is_two = get_or_read new m.to two (omega arith) c.index-in-Some-3.ensures 0 in
          let long = length-set counts m.from one in
          let renewed = c.renew.ensures counts from_in ranked in
          let again = c.renew-in-Some.ensures (slice_set counts m.from one) (omega arith) renewed in
          subst (λ xs. AreCountSets board xs c.renew-in-Some.new.sets.items) (moved-again counts new m.from m.to one two from_in (omega arith) apart (c.give.ensures.moved m.from first.is_move.owns) is_one is_two) again,
      let counts = draft.counts.items in
          let new = c.give.new.self.counts.items in
          let (to, is_to) = move-to board draft c.requires.board is_draft m first.is_move in
          let low = slice_get_within (members_on board) m.to to is_to in
          let many = is_draft.as_many_counts in
          let from_in = is_draft.counts.within m.partition m.from first.is_move.owns in
          let as_many = c.give.ensures.as_many in
          let fewer = first.is_move.fewer in
          let apart : m.to ≡ m.from → ⊥ = λ same. let equal = ap (λ n. get_or counts n 0) same in omega arith in
          let one = c.index-in-Some-4.result.now in
          let two = c.index-in-Some-5.result.now in
          let is_one = get_or_read new m.from one (omega arith) c.index-in-Some-4.ensures 0 in
          let is_two = get_or_read new m.to two (omega arith) c.index-in-Some-5.ensures 0 in
          let written = c.set.ensures counts c.in_ok-next.ensures.order in
          let again = c.set-in-Some.ensures (slice_set counts m.from one) written in
          subst (λ xs. IsOrder xs c.set-in-Some.new.self) (moved-again counts new m.from m.to one two from_in (omega arith) apart (c.give.ensures.moved m.from first.is_move.owns) is_one is_two) again,
    )

pub loop-piles-smaller : goal.loop-piles-smaller
loop-piles-smaller c =
    let board = c.args.self.now in
    let draft = c.loop-piles.draft in
    let counts = draft.counts.items in
    let m = c.in-Some.next in
    let is_draft = c.loop-piles.invariant.0 in
    let first : IsFirst board draft (length board.places.items) m = subst (IsNext board draft (length board.places.items)) c.in-Some.is c.in_ok-next.ensures.next in
    let (to, is_to) = move-to board draft c.requires.board is_draft m first.is_move in
    let low = slice_get_within (members_on board) m.to to is_to in
    let many = is_draft.as_many_counts in
    let from_in = is_draft.counts.within m.partition m.from first.is_move.owns in
    let to_in : m.to < length counts = omega arith in
    subst (λ xs. squares xs < squares counts) (sym (c.give.ensures.moved m.from first.is_move.owns)) (squares_fall counts m.from m.to from_in to_in first.is_move.fewer)

pub returns : goal.returns
returns c =
    let board = c.args.self.now in
    let draft = c.loop-piles.draft in
    let (is_draft, (steps, moves), are, ranked, ordered) = c.loop-piles.invariant in
    let none = subst (IsNext board draft (length board.places.items)) c.in_default.is c.in_ok-next.ensures.next in
    record { draft = is_draft; levelled = record { steps = steps; are_moves = moves; is_level = no_move-level board draft c.requires.board is_draft none } }

pub renew-requires-in-Some-clause-known : goal.renew-requires-in-Some-clause-known
renew-requires-in-Some-clause-known c =
    let board = c.args.self.now in
    let draft = c.loop-piles.draft in
    let m = c.in-Some.next in
    let is_draft = c.loop-piles.invariant.0 in
    let first : IsFirst board draft (length board.places.items) m = subst (IsNext board draft (length board.places.items)) c.in-Some.is c.in_ok-next.ensures.next in
    let from_in = is_draft.counts.within m.partition m.from first.is_move.owns in
    let (to, is_to) = move-to board draft c.requires.board is_draft m first.is_move in
    let low = slice_get_within (members_on board) m.to to is_to in
    let many = is_draft.as_many_counts in
    let one = c.index-in-Some.result.now in
    let long = length-set draft.counts.items m.from one in
    (slice_set draft.counts.items m.from one, omega arith, c.renew.ensures draft.counts.items from_in c.loop-piles.invariant.3)

pub index-requires-in-Some-3 : goal.index-requires-in-Some-3
index-requires-in-Some-3 c =
    let board = c.args.self.now in
    let draft = c.loop-piles.draft in
    let m = c.in-Some.next in
    let is_draft = c.loop-piles.invariant.0 in
    let first : IsFirst board draft (length board.places.items) m = subst (IsNext board draft (length board.places.items)) c.in-Some.is c.in_ok-next.ensures.next in
    let (to, is_to) = move-to board draft c.requires.board is_draft m first.is_move in
    let low = slice_get_within (members_on board) m.to to is_to in
    let many = is_draft.as_many_counts in
    let as_many = c.give.ensures.as_many in
    let ok = c.give.new.self.counts.ok in
    omega arith

pub set-requires : goal.set-requires
set-requires c =
    let board = c.args.self.now in
    let draft = c.loop-piles.draft in
    let m = c.in-Some.next in
    let is_draft = c.loop-piles.invariant.0 in
    let first : IsFirst board draft (length board.places.items) m = subst (IsNext board draft (length board.places.items)) c.in-Some.is c.in_ok-next.ensures.next in
    let from_in = is_draft.counts.within m.partition m.from first.is_move.owns in
    order-room draft.counts.items c.next_move.new.order m.from c.in_ok-next.ensures.order from_in

pub set-requires-in-Some : goal.set-requires-in-Some
set-requires-in-Some c =
    let board = c.args.self.now in
    let draft = c.loop-piles.draft in
    let counts = draft.counts.items in
    let m = c.in-Some.next in
    let is_draft = c.loop-piles.invariant.0 in
    let first : IsFirst board draft (length board.places.items) m = subst (IsNext board draft (length board.places.items)) c.in-Some.is c.in_ok-next.ensures.next in
    let (to, is_to) = move-to board draft c.requires.board is_draft m first.is_move in
    let low = slice_get_within (members_on board) m.to to is_to in
    let many = is_draft.as_many_counts in
    let one = c.index-in-Some-4.result.now in
    let long = length-set counts m.from one in
    order-room (slice_set counts m.from one) c.set.new.self m.to (c.set.ensures counts c.in_ok-next.ensures.order) (omega arith)

pub index-requires-in-Some-5 : goal.index-requires-in-Some-5
index-requires-in-Some-5 c =
    let board = c.args.self.now in
    let draft = c.loop-piles.draft in
    let m = c.in-Some.next in
    let is_draft = c.loop-piles.invariant.0 in
    let first : IsFirst board draft (length board.places.items) m = subst (IsNext board draft (length board.places.items)) c.in-Some.is c.in_ok-next.ensures.next in
    let (to, is_to) = move-to board draft c.requires.board is_draft m first.is_move in
    let low = slice_get_within (members_on board) m.to to is_to in
    let many = is_draft.as_many_counts in
    let as_many = c.give.ensures.as_many in
    let ok = c.give.new.self.counts.ok in
    omega arith

pub index-requires-in-Some-2 : goal.index-requires-in-Some-2
index-requires-in-Some-2 c =
    let board = c.args.self.now in
    let draft = c.loop-piles.draft in
    let m = c.in-Some.next in
    let is_draft = c.loop-piles.invariant.0 in
    let first : IsFirst board draft (length board.places.items) m = subst (IsNext board draft (length board.places.items)) c.in-Some.is c.in_ok-next.ensures.next in
    let (to, is_to) = move-to board draft c.requires.board is_draft m first.is_move in
    let low = slice_get_within (members_on board) m.to to is_to in
    let many = c.in_ok-seats.ensures.as_many in
    let ok = c.in_ok-seats.seats.ok in
    omega arith

pub renew-requires-clause-seats : goal.renew-requires-clause-seats
renew-requires-clause-seats c =
    let board = c.args.self.now in
    let draft = c.loop-piles.draft in
    let m = c.in-Some.next in
    let is_draft = c.loop-piles.invariant.0 in
    let first : IsFirst board draft (length board.places.items) m = subst (IsNext board draft (length board.places.items)) c.in-Some.is c.in_ok-next.ensures.next in
    let from_in = is_draft.counts.within m.partition m.from first.is_move.owns in
    let many = is_draft.as_many_counts in
    let seats = c.in_ok-seats.seats.items in
    let as_many = c.in_ok-seats.ensures.as_many in
    let list = c.index.result.now in
    let is_list = slice_get_read seats (length seats) m.from list refl (omega arith) c.index.ensures in
    subst (AreSeatsOf board m.from) (sym c.deref-in-Some.ensures.value) (AreSeatsOf-listed board seats m.from list c.in_ok-seats.ensures is_list)

pub renew-requires-in-Some-clause-seats : goal.renew-requires-in-Some-clause-seats
renew-requires-in-Some-clause-seats c =
    let board = c.args.self.now in
    let draft = c.loop-piles.draft in
    let m = c.in-Some.next in
    let is_draft = c.loop-piles.invariant.0 in
    let first : IsFirst board draft (length board.places.items) m = subst (IsNext board draft (length board.places.items)) c.in-Some.is c.in_ok-next.ensures.next in
    let (to, is_to) = move-to board draft c.requires.board is_draft m first.is_move in
    let low = slice_get_within (members_on board) m.to to is_to in
    let seats = c.in_ok-seats.seats.items in
    let as_many = c.in_ok-seats.ensures.as_many in
    let list = c.index-in-Some-2.result.now in
    let is_list = slice_get_read seats (length seats) m.to list refl (omega arith) c.index-in-Some-2.ensures in
    subst (AreSeatsOf board m.to) (sym c.deref-in-Some-2.ensures.value) (AreSeatsOf-listed board seats m.to list c.in_ok-seats.ensures is_list)
