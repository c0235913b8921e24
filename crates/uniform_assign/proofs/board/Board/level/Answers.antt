use Rattle.std.proofs.Common.{[], List, ℕ, refl, sym, subst}
use Rattle.uniform_assign.specs.CountSets.{AreCountSets}
use Rattle.uniform_assign.proofs.Moves.{no_move-level}
use Rattle.uniform_assign.proofs.board.Board.level.Goals as goal

pub returns-then-is_level : goal.returns-then-is_level
returns-then-is_level c =
    let board = c.args.self.now in
    let draft = c.args.draft.now in
    record { draft = c.requires.draft; levelled = record { steps = []; are_moves = refl; is_level = no_move-level board draft c.requires.board c.requires.draft c.if-is_level.ensures } }

pub is_level-requires-clause-sets : goal.is_level-requires-clause-sets
is_level-requires-clause-sets c = subst (λ (xs : List (List ℕ)). AreCountSets c.args.self.now c.args.draft.now.counts.items xs) (sym c.deref.ensures.value) c.in_ok-sets.ensures
