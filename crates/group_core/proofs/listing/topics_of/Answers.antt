use Rattle.std.proofs.Common.{rules, ◌≡◌, List, [], ◌∷◌, ◌++◌, sym, ap, ◌∙◌, append_assoc, to_z, of_z, w32}
use Rattle.std.specs.Slice.Iter.{iter_rest}
use Rattle.group_types.specs.declared.partition.Partition.{Partition}
use Rattle.kip_msgs.specs.Growth.{behind}
use Rattle.group_core.proofs.ListingLemmas.{listed-push}
use Rattle.group_core.proofs.listing.topics_of.Goals as goal

pub loop-partition-preserved : goal.loop-partition-preserved
loop-partition-preserved c =
    let i = c.loop-partition.invariant in
    let p = c.in-Some.partition.now in
    let index : to_z w32 (of_z w32 p.index) ≡ p.index = search rules in (
      i.0 ++ p ∷ [],
      i.1 ∙ ap (λ (rest : List Partition). i.0 ++ rest) c.in-Some.ensures.steps ∙ sym (append_assoc i.0 (p ∷ []) (iter_rest c.next.new.self)),
      c.in_ok-list_partition.ensures ∙ (λ k. behind (i.2 k) p.topic (index k)) ∙ sym (listed-push i.0 p),
    )
