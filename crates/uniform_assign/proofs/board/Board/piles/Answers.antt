use Rattle.std.proofs.Common.{arith}
use Rattle.uniform_assign.proofs.Piled.{AreHeld-none}
use Rattle.uniform_assign.proofs.board.Board.piles.Goals as goal

pub returns : goal.returns
returns c =
    let counts = c.args.draft.now.counts.ok in
    let shown = c.len.ensures in
    let many = c.in_ok-no_piles.ensures.as_many in
    AreHeld-none c.args.self.now c.args.draft.now c.in_ok-no_piles.field-0.items c.in_ok-listed.field-0.items c.requires.draft.as_many_owners (omega arith) c.in_ok-no_piles.ensures.empty c.in_ok-listed.ensures
