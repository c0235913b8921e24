use Rattle.std.proofs.Common.{Some, ap, sym, ◌∙◌}
use Rattle.group_types.specs.Members.{past_stamp}
use Rattle.group_epochs.specs.Past.{IsPlaceOf}
use Rattle.group_epochs.proofs.Remembered.{stamp_at}
use Rattle.group_epochs.proofs.past.Past.stamp_of.Goals as goal

pub returns : goal.returns
returns c =
    let past = c.self.inside.entries.items in
    let m = c.args.id.now in
    let i = c.in_ok-place.place in
    let at : IsPlaceOf past m (Some i) = c.in_ok-place.ensures in
    ap (λ e. Some e.1) c.index.ensures
    ∙ sym (stamp_at past m i c.index.result.now c.self.invariant.apart at.0 at.1)
    ∙ ap (λ s. past_stamp s.past m) c.self.view_is
