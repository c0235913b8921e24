use Rattle.std.proofs.Common.{sym, subst}
use Rattle.group_epochs.specs.Restored.{IsFreeInstance}
use Rattle.group_epochs.proofs.records.Records.can_be_restored.Goals as goal

pub returns-then-is_new : goal.returns-then-is_new
returns-then-is_new c =
    let records = c.args.self.now.records in (
      λ so. record {
        new = c.is_new.ensures.0 c.if-is_new.true;
        instance = subst (IsFreeInstance records) c.instance.ensures (c.is_free.ensures.0 so);
      },
      λ can. c.is_free.ensures.1 (subst (IsFreeInstance records) (sym c.instance.ensures) can.instance),
    )
