use Rattle.std.proofs.Common.{ap, sym, ◌∙◌}
use Rattle.std.specs.Option.{option_copied}
use Rattle.group_types.specs.Assignors.{instance_cmp}
use Rattle.group_types.specs.Text.{text_cmp}
use Rattle.group_epochs.specs.Table.{Key, key_cmp}
use Rattle.group_epochs.proofs.Keys.{key_found}
use Rattle.group_epochs.proofs.order.compare_keys.Goals as goal

pub returns-in-Some : goal.returns-in-Some
returns-in-Some c =
    let key : Key = (option_copied c.args.instance, c.args.id.now) in
    c.order_of.ensures
    ∙ (λ i. instance_cmp (c.instance.ensures i) key.0 ((c.cmp.ensures ∙ ap (λ t. text_cmp t key.1) c.as_str.ensures.value) i))
    ∙ ap (λ k. key_cmp k key) (sym (key_found c.args.members.now.entries c.args.place (c.in-Some.text.now, c.in-Some.entry.now) (sym c.in-Some.ensures.entry)))
