use Rattle.std.proofs.Common.{Result, Ok, Err, IfOk, sym, subst}
use Rattle.group_types.specs.Sets.{nothing}
use Rattle.group_types.specs.Partition.{Partitions}
use Rattle.group_reconcile.specs.Settling.{IsNext}
use Rattle.group_reconcile.proofs.Offering.{IsNext-nothing, IsNext-taken}
use Rattle.group_reconcile.proofs.settle.next_of.Goals as goal

if_ok : {E : Type 0} {P Q : Partitions → Type 0} (r : Result Partitions E) → ((next : Partitions) → P next → Q next) → IfOk r P → IfOk r Q
if_ok (Ok next) f h = f next h
if_ok (Err e) f h = tt

pub returns-in-Some : goal.returns-in-Some
returns-in-Some c =
    let cells = c.args.table.now.cells in
    let number = c.args.number in
    if_ok c.free_of.result
    (λ next is. subst (λ target. IsNext cells number target next) c.in-Some.ensures
    (subst (IsNext cells number c.in-Some.set.now) (sym is) (IsNext-taken cells number c.in-Some.set.now)))
    c.free_of.ensures

pub returns-in-None : goal.returns-in-None
returns-in-None c =
    let cells = c.args.table.now.cells in
    let number = c.args.number in
    subst (λ target. IsNext cells number target c.new.result) c.in-None.ensures
    (subst (IsNext cells number nothing) (sym c.new.ensures) (IsNext-nothing cells number))
