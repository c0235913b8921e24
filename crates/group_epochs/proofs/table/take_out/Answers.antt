use Rattle.std.proofs.Common.{[], ◌∙◌}
use Rattle.group_types.specs.Text.{text_cmp}
use Rattle.group_types.proofs.Orders.{text_cmp_total, text_cmp-IsAntisymmetric}
use Rattle.group_epochs.specs.Table.{texts_in}
use Rattle.group_types.proofs.Ordered.{some_rank}
use Rattle.group_epochs.proofs.Rows.{texts_hold}
use Rattle.group_epochs.proofs.table.take_out.Goals as goal

pub unreachable-requires : goal.unreachable-requires
unreachable-requires c =
    let rows = c.args.members.now.entries in
    some_rank text_cmp text_cmp_total text_cmp-IsAntisymmetric [] (texts_in rows) c.args.by_id.now.items c.args.id.now c.in_default.field-0 c.requires.order (texts_hold rows c.args.id.now ∙ c.requires.there) c.in_default.ensures

pub returns-clause-given : goal.returns-clause-given
returns-clause-given c =
    λ e is. c.take_out_at.ensures.given c.args.id.now e c.in-Ok.ensures is

pub returns-clause-taken : goal.returns-clause-taken
returns-clause-taken c =
    c.take_out_at.ensures.taken c.args.id.now c.in-Ok.ensures
