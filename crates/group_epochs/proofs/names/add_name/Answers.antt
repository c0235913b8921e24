use Rattle.std.proofs.Common.{sym, ◌∙◌}
use Rattle.group_types.proofs.Orders.{text_cmp_total, text_cmp-IsAntisymmetric}
use Rattle.group_types.proofs.RisingLists.{with_one-there}
use Rattle.group_epochs.proofs.names.add_name.Goals as goal

pub returns-else-not-contains : goal.returns-else-not-contains
returns-else-not-contains c =
    sym (with_one-there text_cmp_total text_cmp-IsAntisymmetric c.args.names.now c.args.name.now (sym c.contains.ensures ∙ c.if-not-contains.false))
