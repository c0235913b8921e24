use Rattle.std.proofs.Common.{◌≡◌, rules, map, ap, sym, subst, ◌++◌, ◌∙◌, append-nil, IsPermutation}
use Rattle.std.specs.Ordering.{is_lt}
use Rattle.std.proofs.lemmas.List.Sorted.{IsPermutation-map, answers_always, ranks_by}
use Rattle.group_types.specs.Text.{text_cmp}
use Rattle.group_types.proofs.Orders.{text_cmp_total, text_cmp-IsAntisymmetric}
use Rattle.offset_guard.specs.Listing.{named}
use Rattle.offset_guard.proofs.InOrder.{entries_from_sort}
use Rattle.offset_guard.proofs.Listings.{by_text, distinct_names}
use Rattle.range_assign.proofs.MemberOrder.{IsSorted-map}
use Rattle.offset_guard.proofs.listing.topics_in_order.Goals as goal

pub returns : goal.returns
returns c =
    let rows = c.args.topics.now.entries in
    let list = c.sort_unstable_by.new.self.items in
    let all : map named c.loop-name.list.items ≡ map by_text rows =
    sym (append-nil (map named c.loop-name.list.items)) ∙ ap (λ rest. map named c.loop-name.list.items ++ map by_text rest) (sym c.in-None.ensures.steps.0)
    ∙ c.loop-name.invariant ∙ ap (map by_text) (c.into_iter-name-iterator.ensures.into_iter_gives ∙ c.iter-name-items.ensures.rest) in
    entries_from_sort text_cmp_total text_cmp-IsAntisymmetric (map by_text rows) (map named list) (distinct_names rows c.iter-name-items.ensures.unique)
    (subst (λ l. IsPermutation l (map named list)) all (IsPermutation-map named c.loop-name.list.items list c.sort_unstable_by.ensures.permutation))
    (IsSorted-map named (λ s t. text_cmp s.0 t.0) list
    (c.sort_unstable_by.ensures.sorted (λ s t. is_lt (text_cmp s.0.now t.0.now)) (ranks_by text_cmp_total (λ s. s.0.now)) (search (rules, answers_always))))
