use Rattle.std.proofs.Common.{◌≡◌, true, false, not, ap, sym, subst, ◌∙◌}
use Rattle.std.specs.List.{list_any}
use Rattle.std.specs.Ordering.{eq_by_cmp}
use Rattle.group_types.specs.Partition.{IsGap, partition_cmp}
use Rattle.group_types.specs.Sets.{has, of_list, with_one}
use Rattle.group_types.proofs.Orders.{partition_cmp_total, partition_cmp-IsAntisymmetric}
use Rattle.group_types.proofs.RisingLists.{of_list-insert, sorted-insert, with_one-there}
use Rattle.group_types.proofs.SetLemmas.{has-of_list}
use Rattle.group_types.proofs.part_set.PartSet.insert.Goals as goal

pub invariant_of-self-in-Err : goal.invariant_of-self-in-Err
invariant_of-self-in-Err c =
    let parts = c.self.inside.parts.items in
    let gap : IsGap c.args.p parts c.in-Err.at = subst (λ ps. IsGap c.args.p ps c.in-Err.at) c.deref.ensures.value c.in-Err.ensures.gap in
    rw c.in_ok-insert-in-Err.ensures.items (sorted-insert partition_cmp_total c.args.p parts c.in-Err.at gap c.self.invariant)

pub returns-in-Ok-clause-is_new : goal.returns-in-Ok-clause-is_new
returns-in-Ok-clause-is_new c =
    let there : true ≡ list_any (eq_by_cmp partition_cmp c.args.p) c.deref.result.now = c.in-Ok.ensures.there in
    ap not (there
    ∙ ap (list_any (eq_by_cmp partition_cmp c.args.p)) c.deref.ensures.value
    ∙ sym (has-of_list partition_cmp_total c.self.inside.parts.items c.args.p)
    ∙ ap (λ s. has s c.args.p) c.self.view_is)

pub returns-in-Ok-clause-added : goal.returns-in-Ok-clause-added
returns-in-Ok-clause-added c =
    let there : true ≡ list_any (eq_by_cmp partition_cmp c.args.p) c.deref.result.now = c.in-Ok.ensures.there in
    sym (with_one-there partition_cmp_total partition_cmp-IsAntisymmetric c.args.self.now c.args.p
    (sym (there
    ∙ ap (list_any (eq_by_cmp partition_cmp c.args.p)) c.deref.ensures.value
    ∙ sym (has-of_list partition_cmp_total c.self.inside.parts.items c.args.p)
    ∙ ap (λ s. has s c.args.p) c.self.view_is)))

pub returns-in_ok-insert-in-Err-clause-added : goal.returns-in_ok-insert-in-Err-clause-added
returns-in_ok-insert-in-Err-clause-added c =
    ap of_list c.in_ok-insert-in-Err.ensures.items
    ∙ of_list-insert partition_cmp_total partition_cmp-IsAntisymmetric c.args.p c.self.inside.parts.items c.in-Err.at
    ∙ ap (λ s. with_one s c.args.p) c.self.view_is

pub returns-in_ok-insert-in-Err-clause-is_new : goal.returns-in_ok-insert-in-Err-clause-is_new
returns-in_ok-insert-in-Err-clause-is_new c =
    let there : false ≡ list_any (eq_by_cmp partition_cmp c.args.p) c.deref.result.now = c.in-Err.ensures.there in
    ap not (there
    ∙ ap (list_any (eq_by_cmp partition_cmp c.args.p)) c.deref.ensures.value
    ∙ sym (has-of_list partition_cmp_total c.self.inside.parts.items c.args.p)
    ∙ ap (λ s. has s c.args.p) c.self.view_is)
