use Rattle.std.proofs.Common.{◌≡◌, ap, ◌∙◌, rules}
use Rattle.std.specs.List.{filter}
use Rattle.std.proofs.lemmas.Fn.{filter_same}
use Rattle.std.proofs.lemmas.List.Kept.{IsStrictlySortedBy-filter}
use Rattle.group_types.specs.Partition.{partition_cmp}
use Rattle.group_types.specs.Sets.{common, has, of_list}
use Rattle.group_types.proofs.Orders.{partition_cmp_total, partition_cmp-IsAntisymmetric}
use Rattle.group_types.proofs.ListSets.{common-of_list}
use Rattle.group_types.proofs.part_set.PartSet.retain_common.Goals as goal

pub invariant_of-self : goal.invariant_of-self
invariant_of-self c =
    let kept : c.retain.new.self.items ≡ filter (has c.args.other.now) c.self.inside.parts.items = filter_same _ _ _ (λ x b f k. search rules) _ _ c.retain.ensures.filtered in
    rw kept (IsStrictlySortedBy-filter partition_cmp (has c.args.other.now) c.self.inside.parts.items c.self.invariant)

pub returns : goal.returns
returns c =
    let kept : c.retain.new.self.items ≡ filter (has c.args.other.now) c.self.inside.parts.items = filter_same _ _ _ (λ x b f k. search rules) _ _ c.retain.ensures.filtered in
    ap of_list kept
    ∙ common-of_list partition_cmp_total partition_cmp-IsAntisymmetric c.self.inside.parts.items c.args.other.now
    ∙ ap (λ s. common s c.args.other.now) c.self.view_is
