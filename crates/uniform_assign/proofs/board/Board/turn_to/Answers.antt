use Rattle.std.proofs.Common.{◌≡◌, ◌<◌, ℕ, List, length, refl, sym, ap, subst, ◌∙◌}
use Rattle.std.specs.Global.{Vec}
use Rattle.std.specs.List.{All}
use Rattle.std.proofs.lemmas.Option.{same_Some, slice_get_read}
use Rattle.uniform_assign.specs.CountSets.{counts_of}
use Rattle.uniform_assign.proofs.Boards.{takers_within}
use Rattle.uniform_assign.proofs.board.Board.turn_to.Goals as goal

pub of-requires : goal.of-requires
of-requires c =
    let board = c.args.self.now in
    let counts = c.args.draft.now.counts.items in
    let here = slice_get_read board.takers.items (length board.takers.items) c.args.class c.index.result.now refl c.requires.class_in c.index.ensures in
    let all = takers_within board c.requires.board c.args.class c.index.result.now here in
    subst (λ (xs : List ℕ). All (λ t. t < length c.deref.result.now) xs) (sym c.deref-then-queue-class.ensures.value)
    (subst (λ n. All (λ t. t < n) c.index.result.now.items) (sym c.requires.draft.as_many_counts ∙ ap length (sym c.deref.ensures.value)) all)

pub returns-in_ok-queue-clause-queue : goal.returns-in_ok-queue-clause-queue
returns-in_ok-queue-clause-queue c = λ takers is_takers.
    let board = c.args.self.now in
    let here = slice_get_read board.takers.items (length board.takers.items) c.args.class c.index.result.now refl c.requires.class_in c.index.ensures in
    let same : c.index.result.now ≡ takers = same_Some c.index.result.now takers (sym here ∙ is_takers) in
    c.in_ok-queue.ensures ∙ ap (λ (xs : List ℕ). counts_of xs c.deref-then-queue-class.result.now) c.deref.ensures.value
    ∙ ap (λ (xs : List ℕ). counts_of c.args.draft.now.counts.items xs) (c.deref-then-queue-class.ensures.value ∙ ap (λ (v : Vec ℕ). v.items) same)
