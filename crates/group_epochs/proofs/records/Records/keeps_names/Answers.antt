use Rattle.std.proofs.Common.{ap, sym, ◌∙◌}
use Rattle.std.specs.FinMap as finite
use Rattle.group_types.specs.Group.{Record}
use Rattle.group_epochs.specs.Records.{RecordsState}
use Rattle.group_epochs.proofs.Tabled.{kept_of_found}
use Rattle.group_epochs.proofs.records.Records.keeps_names.Goals as goal

pub returns-in-Some : goal.returns-in-Some
returns-in-Some c = λ same s is.
    let id = c.args.id.now in
    let found = ap (λ (s : RecordsState). finite.get s.records id) c.self.view_is ∙ is in
    ap (λ (r : Record). r.names) (sym (kept_of_found c.self.inside.members id c.in-Some.entry.now s (sym c.in-Some.ensures.value) found))
    ∙ sym c.names.ensures ∙ c.equals.ensures.same.0 same ∙ c.names-in-Some.ensures
