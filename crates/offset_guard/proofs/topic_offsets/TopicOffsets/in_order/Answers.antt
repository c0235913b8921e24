use Rattle.std.proofs.Common.{◌≡◌, rules, map, ap, sym, subst, ◌++◌, ◌∙◌, append-nil, IsPermutation}
use Rattle.std.specs.FinMap as finite
use Rattle.std.specs.FinMap.{int_cmp-IsAntisymmetric}
use Rattle.std.specs.Cmp.{int_cmp_total}
use Rattle.std.specs.Ordering.{int_cmp}
use Rattle.std.proofs.lemmas.List.Sorted.{IsPermutation-map, answers_always}
use Rattle.offset_guard.specs.Listing.{indexed}
use Rattle.offset_guard.proofs.InOrder.{entries_from_sort}
use Rattle.offset_guard.proofs.Listings.{distinct_indexes}
use Rattle.range_assign.proofs.MemberOrder.{IsSorted-map}
use Rattle.offset_guard.proofs.topic_offsets.TopicOffsets.in_order.Goals as goal

pub returns : goal.returns
returns c =
    let rows = c.self.inside.offsets.entries in
    let list = c.sort_unstable_by_key.new.self.items in
    let all : map indexed c.loop-index.list.items ≡ rows =
    sym (append-nil (map indexed c.loop-index.list.items)) ∙ ap (λ rest. map indexed c.loop-index.list.items ++ rest) (sym c.in-None.ensures.steps.0)
    ∙ c.loop-index.invariant ∙ c.into_iter-index-iterator.ensures.into_iter_gives ∙ c.iter-index-items.ensures.rest in
    entries_from_sort int_cmp_total int_cmp-IsAntisymmetric rows (map indexed list) (distinct_indexes rows c.iter-index-items.ensures.unique)
    (subst (λ l. IsPermutation l (map indexed list)) all (IsPermutation-map indexed c.loop-index.list.items list c.sort_unstable_by_key.ensures.permutation))
    (IsSorted-map indexed (λ e f. int_cmp e.0 f.0) list (c.sort_unstable_by_key.ensures.sorted (λ e. e.0) (search (rules, answers_always))))
    ∙ ap (λ t. finite.entries t.offsets) c.self.view_is
