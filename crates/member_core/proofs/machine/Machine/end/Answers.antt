use Rattle.group_types.proofs.Orders.{partition_cmp_total, partition_cmp-IsAntisymmetric}
use Rattle.std.proofs.Common.{sym}
use Rattle.member_core.proofs.Beside.{size-minus_nothing}
use Rattle.member_core.proofs.machine.Machine.end.Goals as goal

pub invariant_of-self : goal.invariant_of-self
invariant_of-self c =
    record {
      settings = c.self.invariant.settings;
      id = c.self.invariant.id;
      number = c.self.invariant.number;
      to_release = sym (size-minus_nothing partition_cmp_total partition_cmp-IsAntisymmetric _ _ c.clear.ensures);
    }
