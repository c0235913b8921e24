use Rattle.std.proofs.Common.{◌≡◌, subst, ap, ◌∙◌}
use Rattle.group_types.specs.Sets.{nothing}
use Rattle.group_types.specs.Group.{held}
use Rattle.group_reconcile.specs.Granted.{holders_of}
use Rattle.group_reconcile.specs.Holders.{pairs}
use Rattle.group_reconcile.specs.Members.{TakesMember}
use Rattle.group_reconcile.specs.Offers.{handed_over}
use Rattle.group_reconcile.proofs.Leaving.{AreConsistent-none, AreConsistent-renamed, holders_of-none, holders_of-renamed, pairs_handed_over}
use Rattle.group_reconcile.proofs.grants.Grants.hand_over.Goals as goal

pub invariant_of-self : goal.invariant_of-self
invariant_of-self c =
    let ms = c.self.inside.members in
    let us = c.take.new.self in
    let cells = c.self.inside.table.cells in
    let takes = subst (λ id. TakesMember ms us id c.take.result) c.as_str.ensures.value c.take.ensures in
    let none : held (pairs (holders_of ms cells)) c.args.new ≡ nothing = ap (λ h. held (pairs h) c.args.new) c.self.view_is ∙ c.requires in
    AreConsistent-renamed us c.rename.new.self cells c.args.old.now c.args.new
    (AreConsistent-none ms us cells c.args.new c.take.result c.self.invariant takes none) c.rename.ensures

pub returns-clause-holders : goal.returns-clause-holders
returns-clause-holders c =
    let ms = c.self.inside.members in
    let us = c.take.new.self in
    let cells = c.self.inside.table.cells in
    let takes = subst (λ id. TakesMember ms us id c.take.result) c.as_str.ensures.value c.take.ensures in
    let none : held (pairs (holders_of ms cells)) c.args.new ≡ nothing = ap (λ h. held (pairs h) c.args.new) c.self.view_is ∙ c.requires in
    holders_of-renamed us c.rename.new.self cells c.args.old.now c.args.new
    (AreConsistent-none ms us cells c.args.new c.take.result c.self.invariant takes none) c.rename.ensures
    ∙ ap (λ h. handed_over h c.args.old.now c.args.new) (holders_of-none ms us cells c.args.new c.take.result c.self.invariant takes none ∙ c.self.view_is)

pub returns-clause-grants : goal.returns-clause-grants
returns-clause-grants c = ap pairs (returns-clause-holders c) ∙ pairs_handed_over c.args.self.now c.args.old.now c.args.new
