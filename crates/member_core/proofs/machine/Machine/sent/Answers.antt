use Rattle.group_types.proofs.Orders.{partition_cmp_total, partition_cmp-IsAntisymmetric}
use Rattle.std.proofs.Common.{sym, ap, arith}
use Rattle.member_core.specs.Client.{Client}
use Rattle.member_core.proofs.Beside.{size-minus_nothing}
use Rattle.member_core.proofs.machine.Machine.sent.Goals as goal

pub invariant_of-self-in-Quit : goal.invariant_of-self-in-Quit
invariant_of-self-in-Quit c =
    record {
      settings = c.self.invariant.settings;
      id = c.self.invariant.id;
      number = omega (arith, c.requires, ap (λ (x : Client). x.number) c.self.view_is);
      to_release = sym (size-minus_nothing partition_cmp_total partition_cmp-IsAntisymmetric _ _ c.clear.ensures);
    }
