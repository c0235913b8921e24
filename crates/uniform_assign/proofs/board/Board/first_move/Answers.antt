use Rattle.std.proofs.Common.{◌+◌, length, set as set_at, length-set, refl, ◌∙◌, arith}
use Rattle.std.proofs.lemmas.Option.{slice_get_read, slice_get_within}
use Rattle.uniform_assign.specs.Piles.{IsIn}
use Rattle.uniform_assign.proofs.Firsts.{IsFirstAmong-all, IsFirstAmong-either}
use Rattle.uniform_assign.proofs.Piled.{IsHand-pile, IsHand-searched, IsInBelow, IsInBelow-either}
use Rattle.uniform_assign.proofs.board.Board.first_move.Goals as goal

pub loop-at-init : goal.loop-at-init
loop-at-init c = (refl, c.requires.hand, λ k (i, pile, low, is_pile, is). absurd (omega arith))

pub first_in-found-requires-clause-pile : goal.first_in-found-requires-clause-pile
first_in-found-requires-clause-pile c =
    let hand = c.loop-at.hand.items in
    let old = c.index_mut.result.now in
    let ok = c.args.hand.now.ok in
    let low = c.loop-at-test.true in
    let long = c.len-at-end.ensures in
    let many = c.loop-at.invariant.0 in
    let is_old = slice_get_read hand (length hand) c.loop-at.at old refl (omega arith) c.index_mut.ensures.value in
    IsHand-pile c.args.self.now c.args.draft.now c.args.from c.loop-at.at hand old c.loop-at.invariant.1 is_old

pub loop-at-preserved : goal.loop-at-preserved
loop-at-preserved c =
    let board = c.args.self.now in
    let draft = c.args.draft.now in
    let hand = c.loop-at.hand.items in
    let at = c.loop-at.at in
    let old = c.index_mut.result.now in
    let new = c.first_in-found.new.pile in
    let ok = c.args.hand.now.ok in
    let low = c.loop-at-test.true in
    let long = c.len-at-end.ensures in
    let (many, is_hand, first) = c.loop-at.invariant in
    let is_old = slice_get_read hand (length hand) at old refl (omega arith) c.index_mut.ensures.value in
    let found = c.first_in-found.ensures in (
      length-set hand at new ∙ many,
      IsHand-searched board draft c.args.from hand at old new is_old found.class found.fewer found.kept is_hand,
      IsFirstAmong-either board draft c.requires.board c.requires.draft (IsInBelow hand at) (λ k. IsIn k new) (IsInBelow (set_at hand at new) (at + 1)) c.args.from c.loop-at.best c.first_in-found.result c.earlier-best.result
          (IsInBelow-either board draft c.args.from hand at old new is_old found.class found.fewer found.kept) first found.first c.earlier-best.ensures,
    )

pub returns : goal.returns
returns c =
    let board = c.args.self.now in
    let draft = c.args.draft.now in
    let hand = c.loop-at.hand.items in
    let ok = c.args.hand.now.ok in
    let last = c.loop-at-test.false in
    let long = c.len-at-end.ensures in
    let (many, is_hand, first) = c.loop-at.invariant in
    record {
      hand = is_hand;
      first = IsFirstAmong-all board draft c.requires.board c.requires.draft (IsInBelow hand c.loop-at.at) c.args.from c.loop-at.best
          (λ k low owns.
          let (t, (i, pile, is_pile, of_class, is)) = is_hand.all k owns in
          let within = slice_get_within hand i pile is_pile in
          (i, pile, omega arith, is_pile, is))
          first;
    }
