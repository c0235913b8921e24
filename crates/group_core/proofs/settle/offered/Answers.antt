use Rattle.std.proofs.Common.{sym, subst}
use Rattle.group_target.specs.TargetState.{TargetState}
use Rattle.group_core.specs.Stages.{AreOfView}
use Rattle.group_core.proofs.OwnedIndexes.{part_from_zero}
use Rattle.group_core.proofs.settle.offered.Goals as goal

pub invariant_of-target : goal.invariant_of-target
invariant_of-target c =
    record {
      indexes =
          part_from_zero c.target_of-target.result.now.owners c.args.renewal.now.view _ c.of.result.partitions
          (subst (λ (t : TargetState). AreOfView t.owners c.args.renewal.now.view) (sym c.target_of-target.ensures) c.requires.owned) c.of.ensures.partitions;
    }
