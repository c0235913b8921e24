use Rattle.std.proofs.Common.{Ok, Err, Some, None, sym, subst}
use Rattle.group_reconcile.specs.Members.{IsNumberOf, IsPlace}
use Rattle.group_reconcile.proofs.Numbers.{IsNumberOf-added, IsNumberOf-absent, IsNumberOf-found}
use Rattle.group_reconcile.proofs.members.Members.number_for.Goals as goal

pub returns-in-Ok-clause-number : goal.returns-in-Ok-clause-number
returns-in-Ok-clause-number c =
    let ms = c.self.inside.members in
    let id = c.args.id.now in
    let place =
    subst (λ text. IsPlace ms text c.self.inside.by_id.items (Ok c.in-Ok.place)) c.as_str.ensures.value c.in-Ok.ensures in
    subst (λ us. IsNumberOf us id (Some c.index.result.now)) c.self.view_is
    (IsNumberOf-found ms c.self.inside.by_id.items c.self.invariant id c.in-Ok.place c.index.result.now place c.index.ensures)

pub returns-clause-number : goal.returns-clause-number
returns-clause-number c =
    let ms = c.self.inside.members in
    let id = c.args.id.now in
    let place =
    subst (λ text. IsPlace ms text c.self.inside.by_id.items (Err c.in-Err.at)) c.as_str.ensures.value c.in-Err.ensures in
    let none = IsNumberOf-absent ms c.self.inside.by_id.items c.self.invariant id c.in-Err.at place in
    IsNumberOf-added c.reserve.new.self c.add.new.members c.add.result _ id c.add.ensures.added c.in_ok-id.ensures
    (subst (λ us. IsNumberOf us id None) (sym c.reserve.ensures.rest_kept) none)
