use Rattle.std.proofs.Common.{◌≡◌, length, ap, ◌∙◌}
use Rattle.std.specs.Bool.{Decides, ◌==◌}
use Rattle.std.proofs.lemmas.Bool.Decides.{Decides-eqb, same_from_decides}
use Rattle.group_types.specs.Sets.{is_nothing}
use Rattle.group_types.proofs.Orders.{partition_cmp_total}
use Rattle.group_types.proofs.ListSets.{of_list-nothing}
use Rattle.group_types.proofs.SetLemmas.{is_nothing-Decides}
use Rattle.group_types.proofs.part_set.PartSet.is_empty.Goals as goal

pub returns-clause-empty : goal.returns-clause-empty
returns-clause-empty c =
    let parts = c.self.inside.parts in
    let is : c.is_empty.result ≡ (length parts.items == 0) = c.is_empty.ensures ∙ ap (λ n. n == 0) parts.ok.0 in
    let counts : Decides c.is_empty.result (length parts.items ≡ 0) = rw is (Decides-eqb (length parts.items) 0) in
    rw (← c.self.view_is) (of_list-nothing partition_cmp_total parts.items c.is_empty.result counts)

pub returns-clause-value : goal.returns-clause-value
returns-clause-value c =
    same_from_decides c.is_empty.result (is_nothing c.args.self.now) (returns-clause-empty c) (is_nothing-Decides c.args.self.now)
