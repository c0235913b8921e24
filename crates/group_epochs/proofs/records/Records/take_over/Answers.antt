use Rattle.std.proofs.Common.{sym, ap, ◌∙◌}
use Rattle.std.specs.FinMap as finite
use Rattle.group_types.proofs.Lookups.{found_without}
use Rattle.group_epochs.specs.Records.{Marks}
use Rattle.group_epochs.proofs.records.Records.take_over.Goals as goal

pub hand_over-requires-clause-instance : goal.hand_over-requires-clause-instance
hand_over-requires-clause-instance c = λ n i is there. c.requires.instance n i is there ∙ sym c.as_str.ensures.value

pub returns-clause-marks : goal.returns-clause-marks
returns-clause-marks c = λ n e is.
    let marks = c.args.self.now.marks in
    let found = found_without marks c.args.draft.id n e (ap (λ (ms : Marks). finite.get ms n) (sym (c.hand_over.ensures.marks ∙ ap (finite.remove marks) c.as_str.ensures.value)) ∙ is) in
    (found.0, λ same. absurd (found.1 same))
