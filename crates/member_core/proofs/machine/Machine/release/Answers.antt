use Rattle.std.proofs.Common.{◌-◌, arith, sym, ap, ◌∙◌}
use Rattle.group_types.specs.Sets.{minus, size}
use Rattle.group_types.specs.Partition.{Partitions}
use Rattle.group_types.proofs.Orders.{partition_cmp_total, partition_cmp-IsAntisymmetric}
use Rattle.member_core.proofs.Beside.{size-minus_without, some_beside, without_absent}
use Rattle.member_core.proofs.machine.Machine.release.Goals as goal

pub overflow_sub-self : goal.overflow_sub-self
overflow_sub-self c =
    let some = some_beside partition_cmp_total partition_cmp-IsAntisymmetric c.self.inside.own c.self.inside.shown c.args.p.now
    (sym c.remove.ensures.was_there ∙ c.if-remove.true) (sym c.contains.ensures ∙ c.if-not-contains.true) in
    omega (arith, c.self.invariant.to_release)

pub invariant_of-self : goal.invariant_of-self
invariant_of-self c =
    record {
      settings = c.self.invariant.settings;
      id = c.self.invariant.id;
      number = c.self.invariant.number;
      to_release =
          ap (λ n. n - 1) c.self.invariant.to_release
          ∙ sym (size-minus_without partition_cmp_total partition_cmp-IsAntisymmetric c.self.inside.own c.self.inside.shown c.args.p.now
          (sym c.remove.ensures.was_there ∙ c.if-remove.true) (sym c.contains.ensures ∙ c.if-not-contains.true))
          ∙ ap (λ (s : Partitions). size (minus s c.self.inside.shown)) (sym c.remove.ensures.removed);
    }

pub invariant_of-self-else-remove : goal.invariant_of-self-else-remove
invariant_of-self-else-remove c =
    let same = without_absent partition_cmp_total partition_cmp-IsAntisymmetric c.self.inside.own c.args.p.now (sym c.remove.ensures.was_there ∙ c.if-remove.false) in
    record {
      settings = c.self.invariant.settings;
      id = c.self.invariant.id;
      number = c.self.invariant.number;
      to_release = c.self.invariant.to_release ∙ ap (λ (s : Partitions). size (minus s c.self.inside.shown)) (sym (c.remove.ensures.removed ∙ same));
    }
