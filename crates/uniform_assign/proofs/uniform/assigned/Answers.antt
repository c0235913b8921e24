use Rattle.std.proofs.Common.{◌≡◌, sym, ap, subst, ◌∙◌}
use Rattle.group_types.specs.Uniform.{IsUniform}
use Rattle.uniform_assign.specs.declared.board.Board.{Board}
use Rattle.uniform_assign.specs.Boards.{members_on}
use Rattle.uniform_assign.specs.Drafts.{drawn_on}
use Rattle.uniform_assign.proofs.uniform.assigned.Goals as goal

pub returns : goal.returns
returns c =
    let board = c.in_ok-board.board in
    let former = c.args.former.now in
    let owners = c.settle.new.draft.owners.items in
    let spread = drawn_on board owners in
    let settled = c.in_ok-settle.ensures.settled in
    let shown : c.of-2.result ≡ spread = c.of-2.ensures ∙ c.in_ok-shares.ensures.drawn ∙ ap (λ (b : Board). drawn_on b owners) c.in_ok-settle.ensures.same in
    let uniform : IsUniform board.view.now (members_on board) former spread = record {
      kept = drawn_on board c.in_ok-draft.draft.owners.items;
      is_kept = c.in_ok-draft.ensures.kept;
      filled = settled.filled;
      are_filled = settled.are_filled;
      steps = settled.levelled.steps;
      are_moves = settled.levelled.are_moves;
      is_level = settled.levelled.is_level;
    } in
    subst (λ view. IsUniform view c.args.subs.now former c.of-2.result) c.in_ok-board.ensures.view
    (subst (λ subs. IsUniform board.view.now subs former c.of-2.result) c.in_ok-board.ensures.members
    (subst (IsUniform board.view.now (members_on board) former) (sym shown) uniform))
