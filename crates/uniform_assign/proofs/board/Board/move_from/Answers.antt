use Rattle.std.proofs.Common.{length, refl, arith}
use Rattle.std.proofs.lemmas.Option.{slice_get_read}
use Rattle.uniform_assign.proofs.Piled.{AreHeld-searched, IsHand-drawn}
use Rattle.uniform_assign.proofs.board.Board.move_from.Goals as goal

pub index_mut-requires : goal.index_mut-requires
index_mut-requires c =
    let are = c.in_ok-make_piles.ensures.piles c.args.draft.now c.requires.piles in
    let many = are.as_many in
    let low = c.requires.member in
    let ok = c.make_piles.new.piles.hands.ok in
    omega arith

pub first_move-requires-clause-hand : goal.first_move-requires-clause-hand
first_move-requires-clause-hand c =
    let piles = c.make_piles.new.piles in
    let hands = piles.hands.items in
    let are = c.in_ok-make_piles.ensures.piles c.args.draft.now c.requires.piles in
    let (list, is_list, none) = c.in_ok-make_piles.ensures.made in
    let many = are.as_many in
    let low = c.requires.member in
    let is_hand = slice_get_read hands (length hands) c.args.from c.index_mut.result.now refl (omega arith) c.index_mut.ensures.value in
    IsHand-drawn c.args.self.now c.args.draft.now hands piles.listed.items are c.args.from c.index_mut.result.now is_hand list is_list none

pub returns-clause-piles : goal.returns-clause-piles
returns-clause-piles c =
    let piles = c.make_piles.new.piles in
    let hands = piles.hands.items in
    let are = c.in_ok-make_piles.ensures.piles c.args.draft.now c.requires.piles in
    let many = are.as_many in
    let low = c.requires.member in
    let is_hand = slice_get_read hands (length hands) c.args.from c.index_mut.result.now refl (omega arith) c.index_mut.ensures.value in
    AreHeld-searched c.args.self.now c.args.draft.now hands piles.listed.items are c.args.from c.index_mut.result.now is_hand c.first_move.new.hand c.first_move.ensures.hand
