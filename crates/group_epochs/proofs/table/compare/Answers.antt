use Rattle.std.proofs.Common.{sym, ap, ◌∙◌}
use Rattle.group_types.specs.Text.{Text, text_cmp}
use Rattle.group_epochs.proofs.Rows.{text_found}
use Rattle.group_epochs.proofs.table.compare.Goals as goal

pub returns-in-Some : goal.returns-in-Some
returns-in-Some c =
    c.cmp.ensures
    ∙ ap (λ (t : Text). text_cmp t c.args.id.now)
    (c.as_str.ensures.value ∙ sym (text_found c.args.members.now.entries c.args.place (c.in-Some.text.now, c.in-Some.field-0-1.now) (sym c.in-Some.ensures.entry)))
