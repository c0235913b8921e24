use Rattle.std.proofs.Common.{None, ap, subst, sym, ◌∙◌}
use Rattle.group_types.specs.Group.{Record}
use Rattle.group_types.specs.Places.{IsOrder}
use Rattle.group_epochs.specs.Table.{key_cmp, keys_in, no_key, rekeyed}
use Rattle.group_epochs.specs.declared.entry.Entry.{Entry}
use Rattle.group_epochs.proofs.Keys.{keys_rewritten}
use Rattle.group_epochs.proofs.table.put.Goals as goal

pub returns-clause-member_order : goal.returns-clause-member_order
returns-clause-member_order c =
    let rows = c.args.members.now.entries in
    let new : Entry = record { id = c.in-Some.entry.now.id; kept = c.replace.new.dest; mark = None } in
    let renewed = ap keys_in (c.get_mut.follows.holds new).0 ∙ keys_rewritten c.args.id.now rows new ∙ ap (λ (r : Record). rekeyed c.args.id.now r.instance (keys_in rows)) c.replace.ensures.after in
    subst (λ keys. IsOrder key_cmp no_key keys c.move_place.new.places.items) (sym renewed) c.move_place.ensures
