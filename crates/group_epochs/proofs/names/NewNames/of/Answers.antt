use Rattle.std.proofs.Common.{◌≡◌, ◌∷◌, ◌++◌, [], ap, sym, ◌∙◌, append_assoc, append-nil}
use Rattle.std.specs.Prelude.{string_bytes}
use Rattle.std.proofs.lemmas.List.{map-append}
use Rattle.group_types.specs.Sets.{in_order, of_list}
use Rattle.group_types.specs.Text.{Text, text_cmp}
use Rattle.group_types.proofs.NameLemmas.{texts_of}
use Rattle.group_types.proofs.Orders.{text_cmp_total, text_cmp-IsAntisymmetric}
use Rattle.group_types.proofs.ListSets.{of_list-in_order}
use Rattle.group_epochs.proofs.names.NewNames.of.Goals as goal

-- at the end they are the names in order
all_there : (c : goal.In-None) → texts_of c.loop-name.texts.items ≡ in_order c.args.names.now
all_there c =
    sym (append-nil (texts_of c.loop-name.texts.items))
    ∙ ap (λ left. texts_of c.loop-name.texts.items ++ texts_of left) (sym c.in-None.ensures.steps.0)
    ∙ c.loop-name.invariant

pub loop-name-init : goal.loop-name-init
loop-name-init c =
    λ i. texts_of (c.in_ok-texts.ensures.items i) ++ (ap texts_of c.into_iter-name-iterator.ensures.into_iter_gives ∙ c.iter-name-items.ensures.rest) i

pub loop-name-preserved : goal.loop-name-preserved
loop-name-preserved c =
    let more = ap texts_of c.in_ok-push.ensures.items ∙ map-append string_bytes c.loop-name.texts.items (c.in_ok-from_str.field-0 ∷ []) in
    let name = c.in_ok-from_str.ensures.ok ∙ c.as_str.ensures.value in
    ap (λ l. l ++ texts_of c.next.new.self) more
    ∙ append_assoc (texts_of c.loop-name.texts.items) (string_bytes c.in_ok-from_str.field-0 ∷ []) (texts_of c.next.new.self)
    ∙ ap (λ (t : Text). texts_of c.loop-name.texts.items ++ t ∷ texts_of c.next.new.self) name
    ∙ ap (λ left. texts_of c.loop-name.texts.items ++ texts_of left) (sym c.in-Some.ensures.steps)
    ∙ c.loop-name.invariant

pub invariant_of-result : goal.invariant_of-result
invariant_of-result c =
    ap (λ ks. in_order (of_list {R = text_cmp} ks)) (all_there c)
    ∙ ap in_order (of_list-in_order text_cmp_total text_cmp-IsAntisymmetric c.args.names.now)
    ∙ sym (all_there c)

pub returns : goal.returns
returns c = ap of_list (all_there c) ∙ of_list-in_order text_cmp_total text_cmp-IsAntisymmetric c.args.names.now
