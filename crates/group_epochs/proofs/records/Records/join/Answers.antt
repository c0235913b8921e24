use Rattle.std.proofs.Common.{sym, subst, ap, ◌∙◌}
use Rattle.std.specs.FinMap as finite
use Rattle.group_types.proofs.Lookups.{found_without}
use Rattle.group_epochs.specs.Drafts.{CanStore}
use Rattle.group_epochs.specs.Records.{Marks}
use Rattle.group_epochs.proofs.records.Records.join.Goals as goal

pub admit-requires-clause-instance : goal.admit-requires-clause-instance
admit-requires-clause-instance c = λ n i is there.
    let room = subst (CanStore c.args.self.now c.args.draft.id c.args.draft.record) c.in-New.is c.requires.room in
    c.requires.instance n i is there ∙ sym room.0

pub put-requires-clause-instance : goal.put-requires-clause-instance
put-requires-clause-instance c = λ n i is there. c.requires.instance n i is there ∙ sym c.as_str.ensures.value

pub returns-in-Kept-clause-marks : goal.returns-in-Kept-clause-marks
returns-in-Kept-clause-marks c = λ n e is.
    let marks = c.args.self.now.marks in
    let found = found_without marks c.args.draft.id n e (ap (λ (ms : Marks). finite.get ms n) (sym (c.put.ensures.marks ∙ ap (finite.remove marks) c.as_str.ensures.value)) ∙ is) in
    (found.0, λ same. absurd (found.1 same))
