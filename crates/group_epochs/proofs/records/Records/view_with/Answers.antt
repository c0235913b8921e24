use Rattle.std.proofs.Common.{◌≡◌, IfOk, ap, subst, ◌∙◌}
use Rattle.std.specs.FinMap as finite
use Rattle.group_types.specs.Topics.{Topics}
use Rattle.group_types.specs.Group.{Records}
use Rattle.group_epochs.specs.Records.{RecordsState}
use Rattle.group_epochs.specs.Counts.{AreAsked, AreCounts, is_asked}
use Rattle.group_epochs.specs.Table.{records_in}
use Rattle.group_epochs.proofs.Counted.{view-asked}
use Rattle.group_epochs.proofs.records.Records.view_with.Goals as goal

pub returns : goal.returns
returns c =
    let counts = c.self.inside.counts in
    let id = c.args.id.now in
    let kept = c.args.record.now in
    let records : records_in c.self.inside.members.entries ≡ c.args.self.now.records = ap (λ (s : RecordsState). s.records) c.self.view_is in
    let are = subst (λ (s : Records). AreCounts s counts) records c.self.invariant.counted in
    let asked : AreAsked c.args.image.now (finite.get c.args.self.now.records id) kept.names counts c.in_ok-asked.asked =
    λ name there. c.in_ok-asked.ensures name there ∙ (λ i. is_asked (c.get-former.ensures i) (c.names.ensures i) counts name) in
    subst (λ (t : Topics). IfOk c.view.result (λ view. view ≡ t)) (view-asked c.args.image.now c.args.self.now.records counts id kept c.in_ok-asked.asked are asked) c.view.ensures.value
