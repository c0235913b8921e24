use Rattle.std.proofs.Common.{[], ◌≡◌, ◌-◌, Ok, arith, subst, sym, ◌∙◌}
use Rattle.indexmap.specs.IndexMap.{index_map_len}
use Rattle.group_types.specs.Text.{text_cmp}
use Rattle.group_types.proofs.Orders.{text_cmp_total, text_cmp-IsAntisymmetric}
use Rattle.group_epochs.specs.Table.{IsRank, text_at, texts_in}
use Rattle.group_types.proofs.Ordered.{held_there, some_rank}
use Rattle.group_epochs.proofs.Rows.{length-texts_in, text_found}
use Rattle.group_epochs.proofs.table.last_rank.Goals as goal

pub unreachable-requires-in_default-rank_of : goal.unreachable-requires-in_default-rank_of
unreachable-requires-in_default-rank_of c =
    let rows = c.args.members.now.entries in
    let last = index_map_len c.args.members.now - 1 in
    let named : text_at (texts_in rows) last ≡ c.as_str.result.now = text_found rows last (c.in-Some-last.text.now, c.in-Some-last.field-0-1.now) (sym c.in-Some-last.ensures.entry) ∙ sym c.as_str.ensures.value in
    let here = length-texts_in rows in
    some_rank text_cmp text_cmp_total text_cmp-IsAntisymmetric [] (texts_in rows) c.args.places.now.items c.as_str.result.now c.in_default-rank_of.field-0 c.requires.order
    (held_there text_cmp text_cmp_total text_cmp-IsAntisymmetric [] (texts_in rows) last c.as_str.result.now (omega (arith, here, c.requires.some)) named) c.in_default-rank_of.ensures

pub returns : goal.returns
returns c =
    let rows = c.args.members.now.entries in
    let last = index_map_len c.args.members.now - 1 in
    let named : text_at (texts_in rows) last ≡ c.as_str.result.now = text_found rows last (c.in-Some-last.text.now, c.in-Some-last.field-0-1.now) (sym c.in-Some-last.ensures.entry) ∙ sym c.as_str.ensures.value in
    subst (λ m. IsRank (texts_in rows) c.args.places.now.items m (Ok c.in-Ok.rank)) (sym named) c.in-Ok.ensures
