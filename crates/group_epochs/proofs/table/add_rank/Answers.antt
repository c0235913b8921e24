use Rattle.std.proofs.Common.{[], sym, ◌∙◌}
use Rattle.group_types.specs.Text.{text_cmp}
use Rattle.group_types.proofs.Orders.{text_cmp_total, text_cmp-IsAntisymmetric}
use Rattle.group_epochs.specs.Table.{texts_in}
use Rattle.group_types.proofs.Ordered.{no_rank, order_with}
use Rattle.group_epochs.proofs.Rows.{length-texts_in}
use Rattle.group_epochs.proofs.table.add_rank.Goals as goal

pub unreachable-requires : goal.unreachable-requires
unreachable-requires c =
    no_rank text_cmp text_cmp_total text_cmp-IsAntisymmetric [] (texts_in c.args.members.now.entries) c.args.by_id.now.items c.args.id.now c.in_default.field-0 c.requires.order c.requires.absent c.in_default.ensures

pub returns : goal.returns
returns c =
    let rows = c.args.members.now.entries in
    rw (c.in-Ok.ensures.items, c.len.ensures.len ∙ sym (length-texts_in rows))
    (order_with text_cmp text_cmp_total text_cmp-IsAntisymmetric [] (texts_in rows) c.args.by_id.now.items c.args.id.now c.requires.order c.in-Err.rank c.in-Err.ensures)
