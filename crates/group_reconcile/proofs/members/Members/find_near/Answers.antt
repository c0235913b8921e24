use Rattle.std.proofs.Common.{Some, None, subst}
use Rattle.group_reconcile.specs.Members.{IsNumberOf}
use Rattle.group_reconcile.proofs.Numbers.{IsNumberOf-found, IsNumberOf-absent}
use Rattle.group_reconcile.proofs.members.Members.find_near.Goals as goal

pub returns-in-Ok : goal.returns-in-Ok
returns-in-Ok c =
    let id = c.args.id.now in
    let place = c.in-Ok.ensures in
    subst (λ ms. IsNumberOf ms id (Some c.index.result.now)) c.self.view_is
    (IsNumberOf-found c.self.inside.members c.self.inside.by_id.items c.self.invariant id c.in-Ok.place c.index.result.now place c.index.ensures)

pub returns-in-Err : goal.returns-in-Err
returns-in-Err c =
    let id = c.args.id.now in
    let place = c.in-Err.ensures in
    subst (λ ms. IsNumberOf ms id None) c.self.view_is
    (IsNumberOf-absent c.self.inside.members c.self.inside.by_id.items c.self.invariant id c.in-Err.place place)
