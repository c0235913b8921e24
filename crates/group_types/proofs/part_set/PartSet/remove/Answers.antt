use Rattle.std.proofs.Common.{◌≡◌, Some, true, false, ap, sym, subst, slice_get, ◌∙◌}
use Rattle.std.specs.List.{list_any}
use Rattle.std.specs.Ordering.{eq_by_cmp}
use Rattle.group_types.specs.Partition.{partition_cmp}
use Rattle.group_types.specs.Sets.{has, of_list, without}
use Rattle.group_types.proofs.Orders.{partition_cmp_total, partition_cmp-IsAntisymmetric}
use Rattle.group_types.proofs.RisingLists.{of_list-remove, sorted-remove, without-absent}
use Rattle.group_types.proofs.SetLemmas.{has-of_list}
use Rattle.group_types.proofs.part_set.PartSet.remove.Goals as goal

pub invariant_of-self : goal.invariant_of-self
invariant_of-self c = rw c.remove.ensures.items (sorted-remove partition_cmp c.self.inside.parts.items c.in-Ok.at c.self.invariant)

pub returns-in-Ok-clause-removed : goal.returns-in-Ok-clause-removed
returns-in-Ok-clause-removed c =
    let parts = c.self.inside.parts.items in
    let found : slice_get parts c.in-Ok.at ≡ Some c.args.p.now = subst (λ ps. slice_get ps c.in-Ok.at ≡ Some c.args.p.now) c.deref.ensures.value c.in-Ok.ensures.found in
    ap of_list c.remove.ensures.items
    ∙ of_list-remove partition_cmp_total partition_cmp-IsAntisymmetric c.args.p.now parts c.in-Ok.at c.self.invariant found
    ∙ ap (λ s. without s c.args.p.now) c.self.view_is

pub returns-in-Ok-clause-was_there : goal.returns-in-Ok-clause-was_there
returns-in-Ok-clause-was_there c =
    let there : true ≡ list_any (eq_by_cmp partition_cmp c.args.p.now) c.deref.result.now = c.in-Ok.ensures.there in
    there
    ∙ ap (list_any (eq_by_cmp partition_cmp c.args.p.now)) c.deref.ensures.value
    ∙ sym (has-of_list partition_cmp_total c.self.inside.parts.items c.args.p.now)
    ∙ ap (λ s. has s c.args.p.now) c.self.view_is

pub returns-in-Err-clause-was_there : goal.returns-in-Err-clause-was_there
returns-in-Err-clause-was_there c =
    let there : false ≡ list_any (eq_by_cmp partition_cmp c.args.p.now) c.deref.result.now = c.in-Err.ensures.there in
    there
    ∙ ap (list_any (eq_by_cmp partition_cmp c.args.p.now)) c.deref.ensures.value
    ∙ sym (has-of_list partition_cmp_total c.self.inside.parts.items c.args.p.now)
    ∙ ap (λ s. has s c.args.p.now) c.self.view_is

pub returns-in-Err-clause-removed : goal.returns-in-Err-clause-removed
returns-in-Err-clause-removed c =
    sym (without-absent partition_cmp_total partition_cmp-IsAntisymmetric c.args.self.now c.args.p.now (sym (returns-in-Err-clause-was_there c)))
