use Rattle.std.proofs.Common.{Some}
use Rattle.slab.proofs.SlabLemmas.{Updates-with_value}
use Rattle.slab.specs.Slab.{with_value}
use Rattle.group_reconcile.specs.Members.{with_id}
use Rattle.group_reconcile.proofs.Numbers.{Changes-of, IsIdOrder-insert, no_place}
use Rattle.group_reconcile.proofs.members.put_back.Goals as goal

pub unreachable-requires : goal.unreachable-requires
unreachable-requires c =
    no_place c.args.members.now c.args.number c.args.by_id.now.items c.args.id c.in_default.field-0 c.requires.order c.requires.apart
    (rw c.as_str.ensures.value at c.in_default.ensures)

pub returns-in-Some-clause-order : goal.returns-in-Some-clause-order
returns-in-Some-clause-order c =
    let ms = c.args.members.now in
    let n = c.args.number in
    let ns = c.args.by_id.now.items in
    let m = with_id c.args.id c.in-Some.member.now in
    let place = rw c.as_str.ensures.value at c.in-Err.ensures in
    rw c.in-Ok.ensures.items
    (IsIdOrder-insert ms (with_value ms n m) n ns c.requires.order m c.in-Err.at
    (Changes-of ms (with_value ms n m) n (Some m) (Updates-with_value ms n m c.requires.there)) place.0 place.1)
