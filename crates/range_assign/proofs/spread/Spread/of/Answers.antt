use Rattle.std.proofs.Common.{sym, rules}
use Rattle.std.specs.Ordering.{is_lt}
use Rattle.std.proofs.lemmas.List.Sorted.{IsPermutation-map, answers_always, ranks_by}
use Rattle.group_types.specs.Text.{text_cmp}
use Rattle.group_types.proofs.Orders.{text_cmp_total}
use Rattle.range_assign.specs.Shares.{share_in}
use Rattle.range_assign.proofs.IdOrder.{AreInIdOrder-sorted}
use Rattle.range_assign.proofs.MemberOrder.{IsSorted-map}
use Rattle.range_assign.proofs.Spreads.{AreShares-permutation, spread_of-permutation}
use Rattle.range_assign.proofs.spread.Spread.of.Goals as goal

pub invariant_of-result : goal.invariant_of-result
invariant_of-result c =
    AreInIdOrder-sorted _ (AreShares-permutation _ _ (IsPermutation-map share_in _ _ c.sort_unstable_by.ensures.permutation) c.requires)
    (IsSorted-map share_in (λ s t. text_cmp s.0 t.0) c.sort_unstable_by.new.self.items
    (c.sort_unstable_by.ensures.sorted (λ s t. is_lt (text_cmp s.id t.id)) (ranks_by text_cmp_total (λ s. s.id))
    (answers_always _ _ _ (λ f a r g h. search rules))))

pub returns : goal.returns
returns c =
    sym (spread_of-permutation _ _ (IsPermutation-map share_in _ _ c.sort_unstable_by.ensures.permutation) c.requires.sets_apart)
