use Rattle.std.proofs.Common.{[], ◌-◌, refl, arith}
use Rattle.indexmap.specs.IndexMap.{index_map_len}
use Rattle.group_types.specs.Text.{text_cmp}
use Rattle.group_types.proofs.Orders.{text_cmp_total, text_cmp-IsAntisymmetric}
use Rattle.group_epochs.specs.Table.{text_at, texts_in}
use Rattle.group_types.proofs.Ordered.{rank_renumbered}
use Rattle.group_epochs.proofs.Others.{distinct_in}
use Rattle.group_epochs.proofs.Rows.{length-texts_in}
use Rattle.group_epochs.proofs.table.renumber.Goals as goal

pub returns-clause-numbered : goal.returns-clause-numbered
returns-clause-numbered c =
    let rows = c.args.members.now.entries in
    let last = index_map_len c.args.members.now - 1 in
    let here = length-texts_in rows in
    rank_renumbered text_cmp text_cmp_total text_cmp-IsAntisymmetric [] (texts_in rows) c.args.places.now.items (text_at (texts_in rows) last) c.last_rank-rank.result last c.args.to c.requires.order
    (distinct_in rows c.requires.distinct) c.last_rank-rank.ensures (omega (arith, here, c.requires.some)) refl
