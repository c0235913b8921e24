use Rattle.std.proofs.Common.{◌≡◌, Some, subst}
use Rattle.std.specs.FinMap as finite
use Rattle.group_types.specs.Text.{Text}
use Rattle.group_types.specs.Members.{HasInstance}
use Rattle.group_epochs.specs.Records.{RecordsState}
use Rattle.group_epochs.proofs.Tabled.{instance_absent, instance_found}
use Rattle.group_epochs.proofs.records.Records.with_instance.Goals as goal

pub returns-in-Some : goal.returns-in-Some
returns-in-Some c =
    let found = instance_found c.self.inside.members c.self.inside.past c.self.invariant.table c.args.instance.now c.in-Some.entry.now c.in-Some.ensures in
    (subst (λ (s : RecordsState). finite.get s.records c.in-Some.entry.now.id ≡ Some c.in-Some.entry.now.kept) c.self.view_is found.0, found.1)

pub returns-in-None : goal.returns-in-None
returns-in-None c =
    subst (λ (s : RecordsState). (m : Text) → ¬ HasInstance s.records m c.args.instance.now) c.self.view_is
    (instance_absent c.self.inside.members c.self.inside.past c.self.invariant.table c.args.instance.now c.in-None.ensures)
