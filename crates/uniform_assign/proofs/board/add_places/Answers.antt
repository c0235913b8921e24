use Rattle.std.proofs.Common.{◌≡◌, ◌++◌, ◌∷◌, [], map, arith, sym, ap, ◌∙◌, to_z}
use Rattle.std.specs.Int.{w32}
use Rattle.std.specs.List.{range_with_len}
use Rattle.std.proofs.lemmas.Int.{to_z_pos}
use Rattle.std.proofs.lemmas.List.{append_assoc, append-nil}
use Rattle.std.proofs.lemmas.List.FromFn.{map-range_with_len_more}
use Rattle.uniform_assign.specs.Boards.{place_at}
use Rattle.uniform_assign.proofs.board.add_places.Goals as goal

pub loop-index-init : goal.loop-index-init
loop-index-init c = sym (append-nil c.args.places.now.items)

pub loop-index-preserved : goal.loop-index-preserved
loop-index-preserved c =
    let i = c.loop-index.index in
    let shown = place_at c.args.at c.args.topic.now.id in
    let old = c.args.places.now.items in
    c.in_ok-push.ensures.items
    ∙ ap (λ xs. xs ++ record { topic = c.args.at; partition = record { topic = c.args.topic.now.id; index = to_z w32 i } } ∷ []) c.loop-index.invariant
    ∙ ap (λ z. (old ++ map shown (range_with_len 0 i)) ++ record { topic = c.args.at; partition = record { topic = c.args.topic.now.id; index = z } } ∷ []) (to_z_pos w32 i (omega arith))
    ∙ append_assoc old (map shown (range_with_len 0 i)) (shown i ∷ [])
    ∙ ap (λ xs. old ++ xs) (sym (map-range_with_len_more shown 0 i i (omega arith)))

pub returns : goal.returns
returns c = c.loop-index.invariant ∙ ap (λ n. c.args.places.now.items ++ map (place_at c.args.at c.args.topic.now.id) (range_with_len 0 n)) (let last : c.loop-index.index ≡ c.args.topic.now.count = omega arith in last)
