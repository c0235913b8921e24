use Rattle.std.proofs.Common.{sym, ap, subst}
use Rattle.std.specs.Prelude.{◌↔◌, IsTrue}
use Rattle.std.specs.Option.{option_copied}
use Rattle.group_epochs.specs.Restored.{IsFreeInstance}
use Rattle.group_epochs.proofs.Restoring.{free_instance}
use Rattle.group_epochs.proofs.records.Records.is_free.Goals as goal

pub returns-in-Some : goal.returns-in-Some
returns-in-Some c =
    let records = c.args.self.now.records in
    subst (λ o. IsTrue c.is_none.result ↔ IsFreeInstance records o) (sym (ap option_copied c.in-Some.is))
    (free_instance (λ f. f.0.now) (λ f. f.1.now) records c.in-Some.instance.now c.with_instance.result c.with_instance.ensures c.is_none.result c.is_none.ensures)
