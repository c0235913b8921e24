use Rattle.std.proofs.Common.{sym, ap, ◌∙◌}
use Rattle.std.specs.FinMap as finite
use Rattle.group_epochs.specs.Records.{RecordsState}
use Rattle.group_epochs.proofs.Rows.{get-records_in, kept_in}
use Rattle.group_epochs.proofs.records.Records.get.Goals as goal

pub returns-in-Some : goal.returns-in-Some
returns-in-Some c =
    ap kept_in c.in-Some.ensures.value
    ∙ sym (get-records_in c.self.inside.members.entries c.args.id.now)
    ∙ ap (λ (s : RecordsState). finite.get s.records c.args.id.now) c.self.view_is

pub returns-in-None : goal.returns-in-None
returns-in-None c =
    ap kept_in c.in-None.ensures.value
    ∙ sym (get-records_in c.self.inside.members.entries c.args.id.now)
    ∙ ap (λ (s : RecordsState). finite.get s.records c.args.id.now) c.self.view_is
