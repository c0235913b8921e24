use Rattle.group_reconcile.proofs.Numbers.{Changes-of, IsIdOrder-insert, IsIdOrderBut-vacant}
use Rattle.group_reconcile.proofs.members.add.Goals as goal

pub returns-clause-order : goal.returns-clause-order
returns-clause-order c =
    let ms = c.args.members.now in
    let us = c.insert_reserved-number.new.self in
    let n = c.insert_reserved-number.result in
    let ns = c.args.by_id.now.items in
    rw c.in-Ok.ensures.items
    (IsIdOrder-insert ms us n ns (IsIdOrderBut-vacant ms ns n c.requires.order c.insert_reserved-number.ensures.was_vacant) c.args.member c.args.at
    (Changes-of ms us n _ c.insert_reserved-number.ensures.updates) c.requires.place.0 c.requires.place.1)
