use Rattle.std.proofs.Common.{[], List, ℕ, ◌<◌, get_or, ◌-◌, String, Global, length, map, ◌≡◌, Ok, None, ap, arith, subst, sym, ◌∙◌}
use Rattle.std.specs.Prelude.{string_bytes}
use Rattle.std.specs.List.{remove, swap_remove}
use Rattle.std.specs.Map.{lookup}
use Rattle.std.specs.Str.{bytes_eq}
use Rattle.std.specs.String.{string_eq, string_eq_equiv}
use Rattle.std.proofs.lemmas.List.{get_or_default}
use Rattle.std.proofs.Math.ListN.{length-map}
use Rattle.std.proofs.lemmas.Map.Entries.{lookup_from_place}
use Rattle.indexmap.specs.IndexMap.{UpdatesBy, index_map_len}
use Rattle.group_types.specs.Text.{Text, text_cmp}
use Rattle.group_types.proofs.Lookups.{some_is}
use Rattle.group_types.proofs.Orders.{text_cmp_total, text_cmp-IsAntisymmetric}
use Rattle.group_types.specs.Places.{IsOrder, renumbered}
use Rattle.group_epochs.specs.Table.{IsIdOrder, IsRank, key_cmp, keys_in, no_key, text_at, texts_in}
use Rattle.group_epochs.proofs.Keys.{key_found, keys_fewer}
use Rattle.group_epochs.specs.declared.entry.Entry.{Entry}
use Rattle.std.specs.Prelude.{option_map}
use Rattle.std.proofs.lemmas.Option.{slice_get-get_or}
use Rattle.group_types.proofs.Ordered.{at_place, order_without, rank_place, slice_get_of_map}
use Rattle.group_types.proofs.ListLemmas.{map-remove}
use Rattle.group_epochs.proofs.Remembered.{of_some}
use Rattle.group_epochs.proofs.Others.{distinct_in}
use Rattle.group_epochs.proofs.Rows.{length-texts_in, text_found, texts_fewer}
use Rattle.group_epochs.proofs.table.take_out_at.Goals as goal

-- the text at a rank has that rank
rank_there : (texts : List Text) (places : List ℕ) (r : ℕ) → r < length places → IsRank texts places (text_at texts (get_or places r 0)) (Ok r)
rank_there texts places r within = (
  within,
  slice_get_of_map (text_at texts) places r ∙ ap (option_map (text_at texts)) (slice_get-get_or places r 0 within),
)

pub returns-clause-given : goal.returns-clause-given
returns-clause-given c = λ m e ranked is.
    let rows = c.args.members.now.entries in
    let place = rank_place text_cmp text_cmp_total text_cmp-IsAntisymmetric [] (texts_in rows) c.args.by_id.now.items m c.args.rank c.index-place.result.now c.requires.order ranked c.index-place.ensures in
    let text : string_bytes c.in-Some.field-0-0 ≡ m = sym (text_found rows c.index-place.result.now (c.in-Some.field-0-0, c.in-Some.entry) (sym c.in-Some.ensures.entry)) ∙ place.1 in
    let found = lookup_from_place string_eq_equiv rows c.index-place.result.now c.in-Some.field-0-0 c.in-Some.entry c.requires.distinct (sym c.in-Some.ensures.entry) in
    some_is c.in-Some.entry e (sym found ∙ ap (λ (t : Text). lookup (λ k. bytes_eq t (string_bytes k)) rows) text ∙ is)

pub returns-clause-taken : goal.returns-clause-taken
returns-clause-taken c = λ m ranked.
    let rows = c.args.members.now.entries in
    let place = rank_place text_cmp text_cmp_total text_cmp-IsAntisymmetric [] (texts_in rows) c.args.by_id.now.items m c.args.rank c.index-place.result.now c.requires.order ranked c.index-place.ensures in
    let text : string_bytes c.in-Some.field-0-0 ≡ m = sym (text_found rows c.index-place.result.now (c.in-Some.field-0-0, c.in-Some.entry) (sym c.in-Some.ensures.entry)) ∙ place.1 in
    let found = lookup_from_place string_eq_equiv rows c.index-place.result.now c.in-Some.field-0-0 c.in-Some.entry c.requires.distinct (sym c.in-Some.ensures.entry) in
    record {
      given = λ e is. ap (λ (e : Entry). e.id) (some_is c.in-Some.entry e (sym found ∙ ap (λ (t : Text). lookup (λ k. bytes_eq t (string_bytes k)) rows) text ∙ is));
      entries = subst (λ (t : Text). UpdatesBy string_eq (λ k. bytes_eq t (string_bytes k)) c.args.members.now c.swap_remove_index.new.self None) text c.in-Some.ensures.updates;
      len = c.in-Some.ensures.len;
      room = c.in-Some.ensures.room.0;
      distinct = c.in-Some.ensures.unique;
    }

pub returns-clause-order : goal.returns-clause-order
returns-clause-order c =
    let rows = c.args.members.now.entries in
    let texts = texts_in rows in
    let places = c.args.by_id.now.items in
    let p = c.index-place.result.now in
    let row : String Global × Entry = (c.in-Some.field-0-0, c.in-Some.entry) in
    let rank = rank_there texts places c.args.rank c.requires.there in
    let m = text_at texts (get_or places c.args.rank 0) in
    let place = rank_place text_cmp text_cmp_total text_cmp-IsAntisymmetric [] texts places m c.args.rank p c.requires.order rank c.index-place.ensures in
    let here = length-texts_in rows in
    let text = text_found rows p row (sym c.in-Some.ensures.entry) in
    let fewer = texts_fewer rows c.swap_remove_index.new.self.entries p row (omega (arith, place.0, here)) c.in-Some.ensures.entries in
    let last : index_map_len c.args.members.now - 1 ≡ length texts - 1 = ap (λ n. n - 1) (sym here) in
    let numbered : c.renumber.new.places.items ≡ map (renumbered (length texts - 1) p) places =
    c.renumber.ensures.numbered ∙ (λ i. map (renumbered (last i) p) places) in
    let long = length-map places (renumbered (length texts - 1) p) in
    let removed : c.remove.new.self.items ≡ map (renumbered (length texts - 1) p) (remove places c.args.rank) =
    of_some c.remove.result (c.remove.ensures.variant.1 (omega (arith, ap length numbered, long, c.renumber.new.places.ok.0, c.requires.there))) c.remove.ensures.items
    ∙ ap (λ ps. remove ps c.args.rank) numbered
    ∙ map-remove (renumbered (length texts - 1) p) places c.args.rank in
    subst (λ t. IsIdOrder t c.remove.new.self.items) (sym fewer)
    (subst (IsIdOrder (swap_remove texts p (string_bytes c.in-Some.field-0-0))) (sym removed)
    (order_without text_cmp text_cmp_total text_cmp-IsAntisymmetric [] texts places c.requires.order (distinct_in rows c.requires.distinct) c.args.rank p (string_bytes c.in-Some.field-0-0) rank.0 (c.index-place.ensures ∙ get_or_default places c.args.rank p 0 rank.0) (sym text)))

pub drop_place-requires-clause-there : goal.drop_place-requires-clause-there
drop_place-requires-clause-there c =
    let rows = c.args.members.now.entries in
    let here = length-texts_in rows in
    let inside = at_place (λ k. k < length (texts_in rows)) c.args.by_id.now.items c.args.rank c.index-place.result.now c.requires.there c.requires.order.within in
    omega (arith, here, subst (λ k. k < length (texts_in rows)) (sym c.index-place.ensures) inside)

pub returns-clause-member_order : goal.returns-clause-member_order
returns-clause-member_order c =
    let rows = c.args.members.now.entries in
    let p = c.index-place.result.now in
    let row : String Global × Entry = (c.in-Some.field-0-0, c.in-Some.entry) in
    let here = length-texts_in rows in
    let inside = at_place (λ k. k < length (texts_in rows)) c.args.by_id.now.items c.args.rank p c.requires.there c.requires.order.within in
    let fewer = keys_fewer rows c.swap_remove_index.new.self.entries p row (omega (arith, here, inside)) c.in-Some.ensures.entries in
    subst (λ keys. IsOrder key_cmp no_key keys c.drop_place.new.places.items)
    (ap (swap_remove (keys_in rows) p) (key_found rows p row (sym c.in-Some.ensures.entry)) ∙ sym fewer) c.drop_place.ensures.order
