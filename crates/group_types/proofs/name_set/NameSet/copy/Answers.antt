use Rattle.std.proofs.Common.{ap, sym, ◌∙◌}
use Rattle.group_types.specs.Sets.{in_order, with_one}
use Rattle.group_types.proofs.NameLemmas.{texts_of}
use Rattle.group_types.proofs.Orders.{text_cmp_total, text_cmp-IsAntisymmetric}
use Rattle.group_types.proofs.ListSets.{of_list-in_order, with_all, with_all-nothing}
use Rattle.group_types.proofs.name_set.NameSet.copy.Goals as goal

pub loop-name-init : goal.loop-name-init
loop-name-init c =
    let keys = in_order c.args.self.now in
    (λ i. with_all (c.new-copy.ensures i) ((ap texts_of c.into_iter-name-iterator.ensures.into_iter_gives ∙ c.iter-name-items.ensures.rest) i))
    ∙ with_all-nothing text_cmp_total text_cmp-IsAntisymmetric keys
    ∙ of_list-in_order text_cmp_total text_cmp-IsAntisymmetric c.args.self.now

pub loop-name-preserved : goal.loop-name-preserved
loop-name-preserved c =
    ap (λ s. with_all s (texts_of c.next.new.self)) (c.in_ok-insert.ensures.added ∙ ap (with_one c.loop-name.copy) c.as_str.ensures.value)
    ∙ ap (λ left. with_all c.loop-name.copy (texts_of left)) (sym c.in-Some.ensures.steps)
    ∙ c.loop-name.invariant

pub returns : goal.returns
returns c = ap (λ left. with_all c.loop-name.copy (texts_of left)) (sym c.in-None.ensures.steps.0) ∙ c.loop-name.invariant
