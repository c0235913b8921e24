use Rattle.std.proofs.Common.{sym, arith}
use Rattle.group_types.proofs.Orders.{partition_cmp_total, partition_cmp-IsAntisymmetric}
use Rattle.member_core.proofs.Beside.{size-minus_nothing}
use Rattle.member_core.proofs.machine.Machine.new.Goals as goal

pub invariant_of-result : goal.invariant_of-result
invariant_of-result c =
    record {
      settings = c.requires;
      id = tt;
      number = omega arith;
      to_release = sym (size-minus_nothing partition_cmp_total partition_cmp-IsAntisymmetric _ _ c.new.ensures);
    }
