use Rattle.std.proofs.Common.{◌≡◌, ◌≢◌, ◌<◌, ℕ, List, Ok, length, get_or, set, ap, arith, refl, subst, sym, ◌∙◌}
use Rattle.std.specs.Prelude.{string_bytes}
use Rattle.std.specs.List.{AllByRecursion, remove}
use Rattle.std.specs.List.Sorted.{IsStrictlySortedBy}
use Rattle.std.specs.Map.{keys_of}
use Rattle.std.specs.Option.{option_copied}
use Rattle.std.specs.Str.{bytes_eq}
use Rattle.std.proofs.lemmas.List.{get_or-map, set-get_or}
use Rattle.std.proofs.lemmas.List.Quantifiers.{position-Some}
use Rattle.std.proofs.lemmas.Option.{get_or_from_slice_get, slice_get_within}
use Rattle.std.proofs.lemmas.Slice.Eq.{bytes_eq-Decides}
use Rattle.group_types.proofs.RisingLists.{sorted-remove}
use Rattle.group_types.specs.Places.{IsOrder, IsRankIn, key_at, keys_at}
use Rattle.group_epochs.specs.Table.{Key, key_cmp, keys_in, no_key}
use Rattle.group_epochs.proofs.Keys.{distinct_keys_in, id_of_key, key_cmp_total, key_cmp-IsAntisymmetric, length-keys_in, one_id, rekeyed_set}
use Rattle.group_types.proofs.Ordered.{all-remove, at_place, not_among_rest, order_moved}
use Rattle.group_epochs.proofs.Others.{distinct_in}
use Rattle.group_epochs.proofs.Ranked.{row_there}
use Rattle.group_types.proofs.ListLemmas.{map-remove}
use Rattle.group_epochs.proofs.Remembered.{of_some}
use Rattle.group_epochs.proofs.order.move_place.Goals as goal

-- a key with the id of the member at a place is at none of the others
not_there : (keys : List Key) (places : List ℕ) (s p : ℕ) (k : Key) → AllByRecursion (λ j. j < length keys) places → AllByRecursion (λ j. j ≢ p) places → IsRankIn key_cmp no_key keys places k (Ok s)
    → ((j : ℕ) → j < length keys → (key_at no_key keys j).1 ≡ k.1 → j ≡ p) → ⊥
not_there keys places s p k within apart rank one =
    let j = get_or places s 0 in
    let named : key_at no_key keys j ≡ k =
    sym (get_or-map (key_at no_key keys) places s 0 no_key rank.0) ∙ get_or_from_slice_get (keys_at no_key keys places) s k no_key rank.1 in
    at_place (λ j. j ≢ p) places s 0 rank.0 apart (one j (at_place (λ j. j < length keys) places s 0 rank.0 within) (ap (λ (k : Key). k.1) named))

pub returns-then-has_instance_of : goal.returns-then-has_instance_of
returns-then-has_instance_of c =
    let rows = c.args.members.now.entries in
    let keys = keys_in rows in
    let p = c.in-Some.place in
    let row = row_there rows p c.in-Some.ensures.within in
    let found = position-Some (λ k. bytes_eq c.args.id.now (string_bytes k)) (keys_of rows) p row.0.0 (sym c.in-Some.ensures.index) in
    let own : (key_at no_key keys p).1 ≡ c.args.id.now =
    id_of_key rows p row.0.0 c.in-Some.ensures.within ∙ sym ((bytes_eq-Decides c.args.id.now (string_bytes (get_or (keys_of rows) p row.0.0))).0 found.1) in
    let same : (c.args.record.now.instance, c.args.id.now) ≡ key_at no_key keys p =
    λ i. (sym (c.has_instance_of.ensures c.if-has_instance_of.true) i, sym own i) in
    subst (λ ks. IsOrder key_cmp no_key ks c.args.places.now.items)
    (sym (rekeyed_set c.args.id.now c.args.record.now.instance rows p row.0.0 c.in-Some.ensures.within found.1 found.2 ∙ ap (set keys p) same ∙ set-get_or keys p no_key)) c.requires.order

pub rank_of_key-requires : goal.rank_of_key-requires
rank_of_key-requires c =
    let keys = keys_in c.args.members.now.entries in
    let places = c.args.places.now.items in
    let r = c.rank_of_place-rank.result in
    let within = slice_get_within places r c.in-Some.place c.rank_of_place-rank.ensures in
    let removed : c.remove.new.self.items ≡ remove places r = of_some c.remove.result (c.remove.ensures.variant.1 (omega (arith, within, c.args.places.now.ok))) c.remove.ensures.items in
    subst (λ ps. IsStrictlySortedBy key_cmp (keys_at no_key keys ps)) (sym removed)
    (subst (IsStrictlySortedBy key_cmp) (map-remove (key_at no_key keys) places r) (sorted-remove key_cmp (keys_at no_key keys places) r c.requires.order.rise))

pub unreachable-requires-in_default-rank_of_key : goal.unreachable-requires-in_default-rank_of_key
unreachable-requires-in_default-rank_of_key c =
    let rows = c.args.members.now.entries in
    let keys = keys_in rows in
    let places = c.args.places.now.items in
    let p = c.in-Some.place in
    let r = c.rank_of_place-rank.result in
    let within = slice_get_within places r p c.rank_of_place-rank.ensures in
    let removed : c.remove.new.self.items ≡ remove places r = of_some c.remove.result (c.remove.ensures.variant.1 (omega (arith, within, c.args.places.now.ok))) c.remove.ensures.items in
    let row = row_there rows p c.in-Some.ensures.within in
    let found = position-Some (λ k. bytes_eq c.args.id.now (string_bytes k)) (keys_of rows) p row.0.0 (sym c.in-Some.ensures.index) in
    let own : (key_at no_key keys p).1 ≡ c.args.id.now =
    id_of_key rows p row.0.0 c.in-Some.ensures.within ∙ sym ((bytes_eq-Decides c.args.id.now (string_bytes (get_or (keys_of rows) p row.0.0))).0 found.1) in
    let distinct = distinct_in rows c.requires.distinct in
    let long = length-keys_in rows in
    let inside : p < length keys = omega (arith, long, c.in-Some.ensures.within) in
    let k : Key = (option_copied c.instance.result, c.args.id.now) in
    not_there keys (remove places r) c.in_default-rank_of_key.field-0 p k (all-remove (λ j. j < length keys) places r c.requires.order.within)
    (not_among_rest key_cmp key_cmp_total key_cmp-IsAntisymmetric no_key keys places c.requires.order (distinct_keys_in rows distinct) r p (key_at no_key keys p) within
    (sym (get_or_from_slice_get places r p 0 c.rank_of_place-rank.ensures)) refl)
    (subst (λ ps. IsRankIn key_cmp no_key keys ps k (Ok c.in_default-rank_of_key.field-0)) removed c.in_default-rank_of_key.ensures)
    (λ j there same. one_id rows distinct j p there inside (same ∙ sym own))

pub unreachable-requires-in_default-insert : goal.unreachable-requires-in_default-insert
unreachable-requires-in_default-insert c =
    let within = slice_get_within c.args.places.now.items c.rank_of_place-rank.result c.in-Some.place c.rank_of_place-rank.ensures in
    let len = of_some c.remove.result (c.remove.ensures.variant.1 (omega (arith, within, c.args.places.now.ok))) c.remove.ensures.len in
    omega (arith, len, c.remove.ensures.capacity, c.args.places.now.small, c.in_default-insert.ensures.full)

pub returns : goal.returns
returns c =
    let rows = c.args.members.now.entries in
    let keys = keys_in rows in
    let places = c.args.places.now.items in
    let p = c.in-Some.place in
    let r = c.rank_of_place-rank.result in
    let row = row_there rows p c.in-Some.ensures.within in
    let found = position-Some (λ k. bytes_eq c.args.id.now (string_bytes k)) (keys_of rows) p row.0.0 (sym c.in-Some.ensures.index) in
    let within = slice_get_within places r p c.rank_of_place-rank.ensures in
    let removed : c.remove.new.self.items ≡ remove places r = of_some c.remove.result (c.remove.ensures.variant.1 (omega (arith, within, c.args.places.now.ok))) c.remove.ensures.items in
    rw (rekeyed_set c.args.id.now c.args.record.now.instance rows p row.0.0 c.in-Some.ensures.within found.1 found.2, c.in-Ok.ensures.items, removed)
    (order_moved key_cmp key_cmp_total key_cmp-IsAntisymmetric no_key keys places c.requires.order (distinct_keys_in rows (distinct_in rows c.requires.distinct)) r p (key_at no_key keys p) within
    (sym (get_or_from_slice_get places r p 0 c.rank_of_place-rank.ensures)) refl _ c.in-Err.rank (rw (removed, c.instance.ensures) at c.in-Err.ensures))
