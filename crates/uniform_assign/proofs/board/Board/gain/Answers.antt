use Rattle.std.proofs.Common.{length, refl, arith}
use Rattle.std.proofs.lemmas.Option.{slice_get_read}
use Rattle.uniform_assign.proofs.Piled.{AreHeld-gained}
use Rattle.uniform_assign.proofs.board.Board.gain.Goals as goal

pub returns : goal.returns
returns c = λ old new are many given.
    let hands = c.args.piles.now.hands.items in
    let low = c.requires.member in
    let ok = c.args.piles.now.hands.ok in
    let is_hand = slice_get_read hands (length hands) c.args.member c.index_mut.result.now refl (omega arith) c.index_mut.ensures.value in
    let added = c.in_ok-add.ensures in
    AreHeld-gained c.args.self.now old new hands c.args.piles.now.listed.items are c.args.member c.args.at c.class_at.result c.index_mut.result.now c.add.new.hand
    is_hand c.class_at.ensures.class many given added.added added.kept added.classes
