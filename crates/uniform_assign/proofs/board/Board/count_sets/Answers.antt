use Rattle.std.proofs.Common.{◌≡◌, ◌<◌, ◌+◌, ◌++◌, ◌∷◌, [], ℕ, List, length, refl, sym, ap, subst, ◌∙◌, arith}
use Rattle.std.specs.List.{All}
use Rattle.std.proofs.lemmas.Option.{slice_get_read}
use Rattle.uniform_assign.specs.CountSets.{counts_of}
use Rattle.uniform_assign.proofs.Boards.{takers_within}
use Rattle.uniform_assign.proofs.Queued.{AreCountSetsTo, AreCountSetsTo-more, AreCountSetsTo-none}
use Rattle.uniform_assign.proofs.board.Board.count_sets.Goals as goal

pub loop-class-init : goal.loop-class-init
loop-class-init c = AreCountSetsTo-none c.args.self.now c.args.draft.now.counts.items c.in_ok-sets.sets.items c.in_ok-sets.ensures.items

pub of-requires : goal.of-requires
of-requires c =
    let board = c.args.self.now in
    let low = c.loop-class-test.true in
    let shown = c.len-class-end.ensures in
    let ok = board.takers.ok in
    let here = slice_get_read board.takers.items (length board.takers.items) c.loop-class.class c.index.result.now refl (omega arith) c.index.ensures in
    let all = takers_within board c.requires.board c.loop-class.class c.index.result.now here in
    subst (λ (xs : List ℕ). All (λ t. t < length c.deref.result.now) xs) (sym c.deref-in-loop-class.ensures.value)
    (subst (λ n. All (λ t. t < n) c.index.result.now.items) (sym c.requires.draft.as_many_counts ∙ ap length (sym c.deref.ensures.value)) all)

pub loop-class-preserved : goal.loop-class-preserved
loop-class-preserved c =
    let board = c.args.self.now in
    let counts = c.args.draft.now.counts.items in
    let n = c.loop-class.class in
    let low = c.loop-class-test.true in
    let shown = c.len-class-end.ensures in
    let ok = board.takers.ok in
    let takers = c.index.result.now in
    let set = c.in_ok-of.field-0 in
    let here = slice_get_read board.takers.items (length board.takers.items) n takers refl (omega arith) c.index.ensures in
    let is : set ≡ counts_of counts takers.items = c.in_ok-of.ensures ∙ ap (λ (xs : List ℕ). counts_of xs c.deref-in-loop-class.result.now) c.deref.ensures.value ∙ ap (λ (xs : List ℕ). counts_of counts xs) c.deref-in-loop-class.ensures.value in
    let pushed : c.push.new.self.items ≡ c.loop-class.sets.items ++ set ∷ [] = c.in_ok-push.ensures.items in
    subst (AreCountSetsTo board counts (n + 1)) (sym {A = List (List ℕ)} pushed) (AreCountSetsTo-more board counts n c.loop-class.sets.items takers set c.loop-class.invariant here is)

pub returns : goal.returns
returns c =
    let last = c.loop-class-test.false in
    let end = c.loop-class.auto.class-end in
    let shown = c.len-class-end.ensures in
    let ok = c.args.self.now.takers.ok in
    let many = c.loop-class.invariant.as_many in
    record { as_many = omega arith; each = c.loop-class.invariant.each }
