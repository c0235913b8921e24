use Rattle.std.proofs.Common.{sym, ◌∙◌}
use Rattle.std.specs.Option.{option_copied}
use Rattle.std.proofs.Math.ListN.{length-map}
use Rattle.group_epochs.specs.Table.{Key, key_cmp, key_of, keys_in, no_key}
use Rattle.group_epochs.proofs.Keys.{key_absent, key_cmp_total, key_cmp-IsAntisymmetric}
use Rattle.group_types.proofs.Ordered.{no_rank, order_with}
use Rattle.group_epochs.proofs.order.add_place.Goals as goal

pub rank_of_key-requires : goal.rank_of_key-requires
rank_of_key-requires c = c.requires.order.rise

pub unreachable-requires : goal.unreachable-requires
unreachable-requires c =
    let rows = c.args.members.now.entries in
    let key : Key = (option_copied c.args.instance, c.args.id.now) in
    no_rank key_cmp key_cmp_total key_cmp-IsAntisymmetric no_key (keys_in rows) c.args.places.now.items key c.in_default.field-0 c.requires.order (key_absent key rows c.requires.absent) c.in_default.ensures

pub returns : goal.returns
returns c =
    let rows = c.args.members.now.entries in
    rw (c.in-Ok.ensures.items, c.len.ensures.len ∙ sym (length-map rows key_of))
    (order_with key_cmp key_cmp_total key_cmp-IsAntisymmetric no_key (keys_in rows) c.args.places.now.items _ c.requires.order c.in-Err.rank c.in-Err.ensures)
