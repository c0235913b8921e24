use Rattle.std.proofs.Common.{rules, subst, sym}
use Rattle.std.specs.Prelude.{IsPermutation, IsSorted}
use Rattle.std.proofs.lemmas.List.Sorted.{IsPermutation-map, answers_always, ranks_by}
use Rattle.std.specs.Ordering.{is_lt}
use Rattle.group_types.specs.Assignors.{member_cmp}
use Rattle.range_assign.specs.Members.{subscriber_of, subscribers_in}
use Rattle.range_assign.proofs.Apart.{IdsAreApart-permutation}
use Rattle.range_assign.proofs.MemberOrder.{member_cmp_total, IsSorted-map}
use Rattle.range_assign.proofs.subs.Subs.of.Goals as goal

pub in_order-requires-clause-sorted : goal.in_order-requires-clause-sorted
in_order-requires-clause-sorted c =
    IsSorted-map subscriber_of member_cmp c.sort_unstable_by.new.self.items
    (c.sort_unstable_by.ensures.sorted (λ m n. is_lt (member_cmp (subscriber_of m) (subscriber_of n))) (ranks_by member_cmp_total subscriber_of)
    (answers_always _ _ _ (λ f a r g h. search rules)))

pub in_order-requires-clause-apart : goal.in_order-requires-clause-apart
in_order-requires-clause-apart c =
    IdsAreApart-permutation _ _ (IsPermutation-map subscriber_of _ _ c.sort_unstable_by.ensures.permutation) c.requires

pub returns-clause-same : goal.returns-clause-same
returns-clause-same c =
    subst (IsPermutation (subscribers_in c.args.members.items)) (sym c.in_order.ensures) (IsPermutation-map subscriber_of _ _ c.sort_unstable_by.ensures.permutation)

pub returns-clause-sorted : goal.returns-clause-sorted
returns-clause-sorted c =
    subst (IsSorted member_cmp) (sym c.in_order.ensures)
    (IsSorted-map subscriber_of member_cmp c.sort_unstable_by.new.self.items
    (c.sort_unstable_by.ensures.sorted (λ m n. is_lt (member_cmp (subscriber_of m) (subscriber_of n))) (ranks_by member_cmp_total subscriber_of)
    (answers_always _ _ _ (λ f a r g h. search rules))))
