use Rattle.std.proofs.Common.{sym, subst}
use Rattle.group_reconcile.specs.Members.{IsIdOrderBut, RenamesMember}
use Rattle.group_reconcile.proofs.Numbers.{IsIdOrderBut-remove, IsNumberOf-absent, IsNumberOf-found, RenamesMember-absent, RenamesMember-of}
use Rattle.group_reconcile.proofs.members.Members.rename.Goals as goal

pub returns-in_default : goal.returns-in_default
returns-in_default c =
    let ms = c.self.inside.members in
    let old = c.args.old.now in
    let place = c.in_default.ensures in
    subst (λ us. RenamesMember us us old c.args.new) c.self.view_is
    (RenamesMember-absent ms old c.args.new (IsNumberOf-absent ms c.self.inside.by_id.items c.self.invariant old c.in_default.field-0 place))

pub put_back-requires-clause-order : goal.put_back-requires-clause-order
put_back-requires-clause-order c =
    let ms = c.self.inside.members in
    let ns = c.self.inside.by_id.items in
    let place = c.in-Ok.ensures in
    subst (IsIdOrderBut ms c.in-Some.number) (sym c.in-Some.ensures.items)
    (IsIdOrderBut-remove ms ns c.in-Ok.place c.in-Some.number c.self.invariant place.0 c.in-Some.ensures.value)

pub returns : goal.returns
returns c =
    let ms = c.self.inside.members in
    let old = c.args.old.now in
    let n = c.in-Some.number in
    let place = c.in-Ok.ensures in
    subst (λ before. RenamesMember before c.put_back.new.members old c.args.new) c.self.view_is
    (RenamesMember-of ms c.put_back.new.members n old c.args.new
    (IsNumberOf-found ms c.self.inside.by_id.items c.self.invariant old c.in-Ok.place n place c.in-Some.ensures.value) c.put_back.ensures.named)
