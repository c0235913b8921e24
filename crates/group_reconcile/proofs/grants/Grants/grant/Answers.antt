use Rattle.std.proofs.Common.{◌≡◌, OnErr, Result, Ok, Err, None, ap, ◌∙◌}
use Rattle.std.specs.FinMap as finite
use Rattle.group_reconcile.specs.Granted.{holders_of}
use Rattle.group_reconcile.proofs.Restored.{AreConsistent-granted, KeepsMembers-then, KeepsParts-then, free_cell, holders_of-granted}
use Rattle.group_reconcile.proofs.Settles.{AreConsistent-kept, holders_of-kept}
use Rattle.group_reconcile.proofs.grants.Grants.grant.Goals as goal

on_err : {T E : Type 0} {P : Type 0} (r : Result T E) → P → OnErr r P
on_err (Ok x) h = tt
on_err (Err e) h = h

pub returns-in_err-number-clause-err : goal.returns-in_err-number-clause-err
returns-in_err-number-clause-err c =
    let us = c.number_for.new.self in
    on_err c.from_residual-in_err-number.result
    (ap (holders_of us) c.make_room.ensures.cells
    ∙ holders_of-kept c.self.inside.members us c.self.inside.table.cells c.self.invariant c.number_for.ensures.members c.number_for.ensures.parts
    ∙ c.self.view_is)

pub returns-in_err-add_part-clause-err : goal.returns-in_err-add_part-clause-err
returns-in_err-add_part-clause-err c =
    let ms = c.self.inside.members in
    let us = c.number_for.new.self in
    let after = c.add_part.new.self in
    let same = c.in_err-add_part.ensures.err in
    on_err c.from_residual-in_err-add_part.result
    (ap (holders_of after) c.make_room.ensures.cells
    ∙ holders_of-kept ms after c.self.inside.table.cells c.self.invariant
    (KeepsMembers-then ms us after same c.number_for.ensures.members) (KeepsParts-then ms us after same c.number_for.ensures.parts)
    ∙ c.self.view_is)

pub invariant_of-self-2 : goal.invariant_of-self-2
invariant_of-self-2 c =
    let ms = c.self.inside.members in
    let us = c.number_for.new.self in
    let cells = c.self.inside.table.cells in
    let p = c.args.p.now in
    let free : finite.get cells p ≡ None = free_cell ms cells p (ap (λ h. finite.get h p) c.self.view_is ∙ c.requires.free) in
    AreConsistent-granted us cells
    (AreConsistent-kept ms us cells c.self.invariant c.number_for.ensures.members c.number_for.ensures.parts)
    c.args.member.now c.in_ok-number.number c.in_ok-number.ensures.number p c.args.since free
    c.add_part.new.self c.put.new.self.cells c.in_ok-add_part.ensures.added
    (c.put.ensures.cells ∙ ap (λ m. finite.insert m p (record { holder = c.in_ok-number.number; since = c.args.since })) c.make_room.ensures.cells)

pub returns-clause-holders : goal.returns-clause-holders
returns-clause-holders c =
    let ms = c.self.inside.members in
    let us = c.number_for.new.self in
    let cells = c.self.inside.table.cells in
    let p = c.args.p.now in
    let free : finite.get cells p ≡ None = free_cell ms cells p (ap (λ h. finite.get h p) c.self.view_is ∙ c.requires.free) in
    holders_of-granted us cells
    (AreConsistent-kept ms us cells c.self.invariant c.number_for.ensures.members c.number_for.ensures.parts)
    c.args.member.now c.in_ok-number.number c.in_ok-number.ensures.number p c.args.since free
    c.add_part.new.self c.put.new.self.cells c.in_ok-add_part.ensures.added
    (c.put.ensures.cells ∙ ap (λ m. finite.insert m p (record { holder = c.in_ok-number.number; since = c.args.since })) c.make_room.ensures.cells)
    ∙ ap (λ h. finite.insert h p (record { member = c.args.member.now; since = c.args.since }))
    (holders_of-kept ms us cells c.self.invariant c.number_for.ensures.members c.number_for.ensures.parts ∙ c.self.view_is)
