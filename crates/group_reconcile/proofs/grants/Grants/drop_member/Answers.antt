use Rattle.std.proofs.Common.{◌≡◌, Some, None, sym, subst, ap, ◌∙◌, cond, unwrap_or}
use Rattle.std.specs.FinMap as finite
use Rattle.group_types.specs.declared.partition.Partition.{Partition}
use Rattle.group_types.specs.Partition.{Partitions, partition_cmp}
use Rattle.group_types.specs.Sets.{nothing, has, in_order}
use Rattle.group_types.specs.Settle.{grants_of_others}
use Rattle.group_types.proofs.SetLemmas.{has-in_order, has-nothing}
use Rattle.group_reconcile.specs.Granted.{holders_of}
use Rattle.group_reconcile.specs.Holders.{pairs}
use Rattle.group_reconcile.specs.Offers.{KeepsSince}
use Rattle.group_reconcile.specs.Settling.{cells_without}
use Rattle.group_reconcile.specs.Tables.{Cells}
use Rattle.group_reconcile.proofs.Leaving.{AreConsistent-taken, KeepsSince-let_go, LetsGo-taken}
use Rattle.group_reconcile.proofs.Pairs.{pairs_let_go}
use Rattle.group_reconcile.proofs.Settled.{get-cells_without}
use Rattle.group_reconcile.proofs.grants.Grants.drop_member.Goals as goal

freed : (cells after : Cells) (parts : Partitions) → after ≡ cells_without cells (in_order parts) → (p : Partition)
    → finite.get after p ≡ cond (has (unwrap_or (Some parts) nothing) p) None (finite.get cells p)
freed cells after parts is p =
    ap (λ m. finite.get m p) is ∙ get-cells_without cells (in_order parts) p ∙ ap (λ b. cond b None (finite.get cells p)) (sym (has-in_order parts p))

none_freed : (cells : Cells) (p : Partition) → finite.get cells p ≡ cond (has (unwrap_or None (nothing {R = partition_cmp})) p) None (finite.get cells p)
none_freed cells p = ap (λ b. cond b None (finite.get cells p)) (sym (has-nothing partition_cmp p))

pub invariant_of-self : goal.invariant_of-self
invariant_of-self c =
    let cells = c.self.inside.table.cells in
    AreConsistent-taken c.self.inside.members c.take.new.self cells c.clear_each.new.table.cells c.args.member.now (Some c.in-Some.parts) c.self.invariant
    c.in-Some.ensures (freed cells c.clear_each.new.table.cells c.in-Some.parts c.clear_each.ensures)

pub returns-in-Some-clause-grants : goal.returns-in-Some-clause-grants
returns-in-Some-clause-grants c =
    let ms = c.self.inside.members in
    let us = c.take.new.self in
    let m = c.args.member.now in
    let cells = c.self.inside.table.cells in
    let after = c.clear_each.new.table.cells in
    ap pairs c.give_back.ensures
    ∙ pairs_let_go (holders_of ms cells) (holders_of us after) m
    (LetsGo-taken ms us cells after m (Some c.in-Some.parts) c.self.invariant c.in-Some.ensures (freed cells after c.in-Some.parts c.clear_each.ensures))
    ∙ ap (λ h. grants_of_others (pairs h) m) c.self.view_is

pub returns-in-Some-clause-since : goal.returns-in-Some-clause-since
returns-in-Some-clause-since c =
    let ms = c.self.inside.members in
    let us = c.take.new.self in
    let m = c.args.member.now in
    let cells = c.self.inside.table.cells in
    let after = c.clear_each.new.table.cells in
    subst (λ h. KeepsSince h c.give_back.new.self) c.self.view_is
    (subst (KeepsSince (holders_of ms cells)) (sym c.give_back.ensures)
    (KeepsSince-let_go (holders_of ms cells) (holders_of us after) m
    (LetsGo-taken ms us cells after m (Some c.in-Some.parts) c.self.invariant c.in-Some.ensures (freed cells after c.in-Some.parts c.clear_each.ensures))))

pub returns-in_default-clause-grants : goal.returns-in_default-clause-grants
returns-in_default-clause-grants c =
    let ms = c.self.inside.members in
    let us = c.take.new.self in
    let m = c.args.member.now in
    let cells = c.self.inside.table.cells in
    pairs_let_go (holders_of ms cells) (holders_of us cells) m
    (LetsGo-taken ms us cells cells m None c.self.invariant c.in_default.ensures (none_freed cells))
    ∙ ap (λ h. grants_of_others (pairs h) m) c.self.view_is
