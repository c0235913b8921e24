use Rattle.std.proofs.Common.{subst}
use Rattle.std.proofs.lemmas.Result.{on_ok_weaker}
use Rattle.uniform_assign.specs.declared.board.Board.{Board}
use Rattle.uniform_assign.specs.Boards.{members_on}
use Rattle.uniform_assign.specs.Drafts.{IsFilledAndLevelled, IsLevelled, drawn_on}
use Rattle.uniform_assign.proofs.Settled.{single-settled}
use Rattle.uniform_assign.proofs.board.Board.settle.Goals as goal

pub returns-then-is_single-clause-settled : goal.returns-then-is_single-clause-settled
returns-then-is_single-clause-settled c = single-settled c.args.self.now c.args.draft.now c.requires.board c.requires.draft c.if-is_single.ensures

pub returns-clause-settled : goal.returns-clause-settled
returns-clause-settled c =
    let board = c.find_takers.new.self in
    let old = c.args.draft.now.owners.items in
    let filled = c.fill.new.draft.owners.items in
    let new = c.level.new.draft.owners.items in
    on_ok_weaker c.level.result
    (λ (levelled : IsLevelled board.view.now (members_on board) (drawn_on board filled) (drawn_on board new)).
    let settled : IsFilledAndLevelled board.view.now (members_on board) (drawn_on board old) (drawn_on board new) =
    record { filled = drawn_on board filled; are_filled = c.in_ok-fill.ensures.filled; levelled = levelled } in
    subst (λ (b : Board). IsFilledAndLevelled b.view.now (members_on b) (drawn_on b old) (drawn_on b new)) c.in_ok-find_takers.ensures.same settled)
    c.level.ensures.levelled
