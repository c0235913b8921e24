use Rattle.std.proofs.Common.{rules, sym, subst, ◌∙◌, true≢false}
use Rattle.std.specs.List.Sorted.{IsPermutation}
use Rattle.std.specs.Ordering.{is_lt}
use Rattle.std.proofs.lemmas.List.Sorted.{IsPermutation-map, IsPermutation-sym, answers_always, ranks_by}
use Rattle.group_types.specs.Text.{text_cmp}
use Rattle.group_types.proofs.Orders.{text_cmp_total}
use Rattle.range_assign.specs.Shares.{AreInIdOrder, IdsRise, SetsAreApart, share_in, shares_in}
use Rattle.range_assign.proofs.IdOrder.{AreInIdOrder-sorted, AreShares-of_order}
use Rattle.range_assign.proofs.MemberOrder.{IsSorted-map}
use Rattle.range_assign.proofs.Spreads.{AreShares-permutation, spread_of-permutation}
use Rattle.range_assign.proofs.spread.Spread.try_of.Goals as goal

pub returns-then-not-ids_rise : goal.returns-then-not-ids_rise
returns-then-not-ids_rise c = λ are.
    let order =
    AreInIdOrder-sorted _ (AreShares-permutation _ _ (IsPermutation-map share_in _ _ c.sort_unstable_by.ensures.permutation) are)
    (IsSorted-map share_in (λ s t. text_cmp s.0 t.0) c.sort_unstable_by.new.self.items
    (c.sort_unstable_by.ensures.sorted (λ s t. is_lt (text_cmp s.id t.id)) (ranks_by text_cmp_total (λ s. s.id))
    (answers_always _ _ _ (λ f a r g h. search rules)))) in
    let says = c.ids_rise.ensures.1 (subst (λ xs. IdsRise (shares_in xs)) (sym c.deref.ensures.value) order.rise) in
    true≢false (sym says ∙ c.if-not-ids_rise.true)

pub returns-then-not-apart : goal.returns-then-not-apart
returns-then-not-apart c = λ are.
    let sorted = c.sort_unstable_by.new.self.items in
    let moved = AreShares-permutation _ _ (IsPermutation-map share_in _ _ c.sort_unstable_by.ensures.permutation) are in
    let says = c.in_ok-apart.ensures.1 (subst (λ xs. SetsAreApart (shares_in xs)) (sym c.deref-2.ensures.value) moved.sets_apart) in
    true≢false (sym says ∙ c.if-not-apart.true)

pub returns : goal.returns
returns c =
    let sorted = shares_in c.sort_unstable_by.new.self.items in
    let moves : IsPermutation (shares_in c.args.shares.items) sorted = IsPermutation-map share_in _ _ c.sort_unstable_by.ensures.permutation in
    let order : AreInIdOrder sorted =
    record {
      rise = subst (λ xs. IdsRise (shares_in xs)) c.deref.ensures.value (c.ids_rise.ensures.0 c.if-not-ids_rise.false);
      sets_apart = subst (λ xs. SetsAreApart (shares_in xs)) c.deref-2.ensures.value (c.in_ok-apart.ensures.0 c.if-not-apart.false);
    } in
    let are = AreShares-permutation sorted (shares_in c.args.shares.items) (IsPermutation-sym _ _ moves) (AreShares-of_order sorted order) in
    (are, sym (spread_of-permutation _ _ moves are.sets_apart))
