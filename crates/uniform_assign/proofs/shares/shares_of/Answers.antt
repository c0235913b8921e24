use Rattle.std.proofs.Common.{List, ◌++◌, not, sym, ap, ◌∙◌}
use Rattle.std.specs.List.{filter}
use Rattle.std.proofs.lemmas.List.{append-nil, nil_from_length}
use Rattle.group_types.specs.Partition.{Partitions}
use Rattle.group_types.specs.Text.{Text}
use Rattle.range_assign.specs.Shares.{shares_in}
use Rattle.uniform_assign.specs.declared.shares.Hand.{Hand}
use Rattle.uniform_assign.specs.Hands.{hands_in, has_parts}
use Rattle.uniform_assign.proofs.Hands.{filter-none}
use Rattle.uniform_assign.proofs.shares.shares_of.Goals as goal

pub loop-hand-init : goal.loop-hand-init
loop-hand-init c = λ i. shares_in (c.new-shares.ensures.items i) ++ hands_in (filter has_parts (c.into_iter-hand-iterator.ensures.into_iter_gives.0 i))

pub loop-hand-preserved : goal.loop-hand-preserved
loop-hand-preserved c =
    let made : List (Text × Partitions) = shares_in c.loop-hand.shares.items in
    let rest = c.next.new.self.rest.items in
    ap (λ (xs : List Hand). made ++ hands_in xs) (sym (filter-none c.in-Some.hand rest (ap not (sym c.if-not-is_empty.ensures))))
    ∙ ap (λ xs. made ++ hands_in (filter has_parts xs)) (sym c.in-Some.ensures.steps.0)
    ∙ c.loop-hand.invariant

pub returns : goal.returns
returns c =
    let rest = c.loop-hand.hand-iterator.rest in
    let made : List (Text × Partitions) = shares_in c.loop-hand.shares.items in
    sym (append-nil made)
    ∙ ap (λ xs. made ++ hands_in (filter has_parts xs)) (sym (nil_from_length rest.items (sym rest.ok.0 ∙ c.in-None.ensures.steps.0)))
    ∙ c.loop-hand.invariant
