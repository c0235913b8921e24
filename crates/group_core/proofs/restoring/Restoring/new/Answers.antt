use Rattle.std.proofs.Common.{◌≤◌, arith, sym, subst}
use Rattle.group_types.specs.Group.{starting_group}
use Rattle.group_types.specs.Limits.{GREATEST_EPOCH}
use Rattle.group_types.proofs.Runs.{starting_is_sound}
use Rattle.group_core.specs.Restoring.{IsRestoring}
use Rattle.group_core.proofs.Begun.{restoring_of_sound}
use Rattle.group_core.proofs.restoring.Restoring.new.Goals as goal

pub invariant_of-result : goal.invariant_of-result
invariant_of-result c =
    let low : c.zero.result ≤ GREATEST_EPOCH = omega (arith, c.zero.ensures) in
    record {
      restoring = subst IsRestoring (sym c.starting_at.ensures.group)
          (restoring_of_sound (starting_group c.args.salt c.zero.result) (starting_is_sound c.args.salt c.zero.result low));
      unmarked = c.starting_at.ensures.marks;
    }
