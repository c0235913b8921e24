use Rattle.std.proofs.Common.{ap, ◌∙◌, Bool, true, IfOk, Result, Ok, Err}
use Rattle.std.specs.Option.{option_copied}
use Rattle.group_types.specs.Sets.{common}
use Rattle.group_types.specs.Group.{held}
use Rattle.group_types.specs.Partition.{Partitions}
use Rattle.group_types.specs.Settle.{grants_after, may_settle}
use Rattle.group_reconcile.specs.Holders.{Holders, pairs}
use Rattle.group_reconcile.proofs.Shown.{next-shown}
use Rattle.group_reconcile.proofs.Stays as stays
use Rattle.group_reconcile.proofs.grants.Grants.shown_after.Goals as goal

if_ok : {T E : Type 0} {P Q : T → Type 0} (r : Result T E) → ((x : T) → P x → Q x) → IfOk r P → IfOk r Q
if_ok (Ok x) so it = so x it
if_ok (Err e) so it = it

pub returns-then-may_settle : goal.returns-then-may_settle
returns-then-may_settle c =
    let m = c.args.member.now in
    let target = c.args.target.now.partitions in
    let shown : Holders → Bool → Partitions = λ h may. common (held (grants_after may (pairs h) m target) m) target in
    if_ok c.next_of.result
    (λ set is_next.
    next-shown c.self.inside.members c.self.inside.table.cells c.self.invariant m c.find.result c.find.ensures target set is_next
    ∙ ap (λ h. shown h true) c.self.view_is
    ∙ ap (shown c.args.self.now) c.if-may_settle.ensures)
    c.next_of.ensures

pub returns-then-is_settled : goal.returns-then-is_settled
returns-then-is_settled c =
    let before = pairs c.args.self.now in
    let m = c.args.member.now in
    let target = c.args.target.now.partitions in
    if_ok c.copy_set.result
    (λ set same. same ∙ stays.shown before m target (c.is_settled.ensures c.if-is_settled.true) (may_settle before m target (option_copied c.args.owned)))
    c.copy_set.ensures
