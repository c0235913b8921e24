use Rattle.std.proofs.Common.{◌≡◌, ◌-◌, Ok, length, map, set, arith, ap, refl, subst, sym, ◌∙◌}
use Rattle.std.specs.List.{remove, swap_remove}
use Rattle.std.proofs.lemmas.List.{length-set}
use Rattle.std.proofs.lemmas.Option.{get_or_from_slice_get, slice_get_within}
use Rattle.group_types.specs.Places.{IsOrder, IsRankIn, key_at, renumbered}
use Rattle.group_epochs.specs.Table.{key_cmp, keys_in, no_key}
use Rattle.group_epochs.proofs.Keys.{distinct_keys_in, key_cmp_total, key_cmp-IsAntisymmetric, length-keys_in}
use Rattle.group_types.proofs.Ordered.{key_rank, order_without, rank_renumbered}
use Rattle.group_epochs.proofs.Others.{distinct_in}
use Rattle.group_types.proofs.ListLemmas.{map-remove}
use Rattle.group_epochs.proofs.Remembered.{of_some}
use Rattle.group_epochs.proofs.order.drop_place.Goals as goal

pub returns-clause-order : goal.returns-clause-order
returns-clause-order c =
    let rows = c.args.members.now.entries in
    let keys = keys_in rows in
    let places = c.args.places.now.items in
    let p = c.args.place in
    let r = c.rank_of_place-rank.result in
    let s = c.rank_of_place-last.result in
    let last = length keys - 1 in
    let here = length-keys_in rows in
    let distinct = distinct_keys_in rows (distinct_in rows c.requires.distinct) in
    let within = slice_get_within places r p c.rank_of_place-rank.ensures in
    let at_end = key_rank key_cmp key_cmp_total key_cmp-IsAntisymmetric no_key keys places s (c.len.result - 1) c.rank_of_place-last.ensures in
    let end : c.len.result - 1 ≡ last = ap (λ n. n - 1) (c.len.ensures.len ∙ sym here) in
    let numbered : set places s p ≡ map (renumbered last p) places =
    rank_renumbered key_cmp key_cmp_total key_cmp-IsAntisymmetric no_key keys places (key_at no_key keys last) s last p c.requires.order distinct
    (subst (λ n. IsRankIn key_cmp no_key keys places (key_at no_key keys n) (Ok s)) end at_end) (omega (arith, here, c.requires.there)) refl in
    let long = length-set places s p in
    let removed : c.remove.new.self.items ≡ map (renumbered last p) (remove places r) =
    of_some c.remove.result (c.remove.ensures.variant.1 (omega (arith, long, within, c.args.places.now.ok))) c.remove.ensures.items
    ∙ ap (λ ps. remove ps r) numbered
    ∙ map-remove (renumbered last p) places r in
    subst (IsOrder key_cmp no_key (swap_remove keys p (key_at no_key keys p))) (sym removed)
    (order_without key_cmp key_cmp_total key_cmp-IsAntisymmetric no_key keys places c.requires.order distinct r p (key_at no_key keys p) within
    (sym (get_or_from_slice_get places r p 0 c.rank_of_place-rank.ensures)) refl)

pub returns-clause-room : goal.returns-clause-room
returns-clause-room c =
    let long = length-set c.args.places.now.items c.rank_of_place-last.result c.args.place in
    let within = slice_get_within c.args.places.now.items c.rank_of_place-rank.result c.args.place c.rank_of_place-rank.ensures in
    let len = of_some c.remove.result (c.remove.ensures.variant.1 (omega (arith, long, within, c.args.places.now.ok))) c.remove.ensures.len in
    omega (arith, len, c.remove.ensures.capacity, c.args.places.now.small)
