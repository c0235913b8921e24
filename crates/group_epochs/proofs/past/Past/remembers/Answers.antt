use Rattle.std.proofs.Common.{ap, sym, ◌∙◌}
use Rattle.std.specs.List.{list_any}
use Rattle.std.specs.Ordering.{eq_by_cmp}
use Rattle.group_types.specs.Text.{text_cmp}
use Rattle.group_epochs.proofs.Remembered.{is_remembered-stamp, is_some-place}
use Rattle.group_epochs.proofs.past.Past.remembers.Goals as goal

pub returns : goal.returns
returns c =
    let past = c.self.inside.entries.items in
    let m = c.args.id.now in
    c.is_some.ensures
    ∙ is_some-place past m c.place_of.result c.self.invariant.apart c.place_of.ensures
    ∙ sym (is_remembered-stamp past m)
    ∙ ap (λ s. list_any (λ e. eq_by_cmp text_cmp m e.0) s.past) c.self.view_is
