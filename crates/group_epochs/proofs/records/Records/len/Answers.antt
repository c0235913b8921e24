use Rattle.std.proofs.Common.{ap, sym, ◌∙◌}
use Rattle.std.specs.FinMap as finite
use Rattle.group_epochs.specs.Records.{RecordsState}
use Rattle.group_epochs.proofs.Others.{len-records_in}
use Rattle.group_epochs.proofs.records.Records.len.Goals as goal

pub returns : goal.returns
returns c =
    c.len.ensures.len
    ∙ sym (len-records_in c.self.inside.members.entries c.len.ensures.unique)
    ∙ ap (λ (s : RecordsState). finite.len s.records) c.self.view_is
