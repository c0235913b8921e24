use Rattle.std.proofs.Common.{Ok, Err, arith, refl, subst, sym, ◌∙◌}
use Rattle.group_types.specs.Places.{IsRankIn, key_at}
use Rattle.group_epochs.specs.Table.{Key, key_cmp, keys_in, no_key}
use Rattle.group_epochs.proofs.Keys.{distinct_keys_in, key_cmp_total, key_cmp-IsAntisymmetric, key_found, length-keys_in}
use Rattle.group_types.proofs.Ordered.{held_there, place_rank, some_rank}
use Rattle.group_epochs.proofs.Others.{distinct_in}
use Rattle.group_epochs.proofs.order.rank_of_place.Goals as goal

pub unreachable-requires-in_default-rank_of_key : goal.unreachable-requires-in_default-rank_of_key
unreachable-requires-in_default-rank_of_key c =
    let rows = c.args.members.now.entries in
    let places = c.args.places.now.items in
    let m = key_at no_key (keys_in rows) c.args.place in
    let long = length-keys_in rows in
    let found = key_found rows c.args.place (c.in-Some-get_index.text.now, c.in-Some-get_index.entry.now) (sym c.in-Some-get_index.ensures.entry) in
    some_rank key_cmp key_cmp_total key_cmp-IsAntisymmetric no_key (keys_in rows) places m c.in_default-rank_of_key.field-0 c.requires.order
    (held_there key_cmp key_cmp_total key_cmp-IsAntisymmetric no_key (keys_in rows) c.args.place m (omega (arith, long, c.requires.there)) refl)
    (subst (λ (k : Key). IsRankIn key_cmp no_key (keys_in rows) places k (Err c.in_default-rank_of_key.field-0)) ((λ i. (c.instance.ensures i, c.as_str.ensures.value i)) ∙ sym found) c.in_default-rank_of_key.ensures)

pub returns : goal.returns
returns c =
    let rows = c.args.members.now.entries in
    let places = c.args.places.now.items in
    let long = length-keys_in rows in
    let found = key_found rows c.args.place (c.in-Some-get_index.text.now, c.in-Some-get_index.entry.now) (sym c.in-Some-get_index.ensures.entry) in
    place_rank key_cmp key_cmp_total key_cmp-IsAntisymmetric no_key (keys_in rows) places c.requires.order (distinct_keys_in rows (distinct_in rows c.requires.distinct)) c.in-Ok.rank c.args.place
    (omega (arith, long, c.requires.there))
    (subst (λ (k : Key). IsRankIn key_cmp no_key (keys_in rows) places k (Ok c.in-Ok.rank)) ((λ i. (c.instance.ensures i, c.as_str.ensures.value i)) ∙ sym found) c.in-Ok.ensures)
