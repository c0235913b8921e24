use Rattle.std.proofs.Common.{◌≡◌, cond, OnErr, Result, Ok, Err, Some, None, is_some, ℕ, subst, ap, ◌∙◌}
use Rattle.std.specs.FinMap as finite
use Rattle.group_types.specs.declared.partition.Partition.{Partition}
use Rattle.group_types.specs.Partition.{Partitions}
use Rattle.group_types.specs.Sets.{has, in_order}
use Rattle.group_reconcile.specs.Granted.{holders_of}
use Rattle.group_reconcile.specs.Holders.{Settles}
use Rattle.group_reconcile.specs.Members.{IsNumberOf, parts_of}
use Rattle.group_reconcile.specs.Settling.{cells_cleared, cells_put}
use Rattle.group_reconcile.specs.Tables.{Cells}
use Rattle.group_reconcile.proofs.FromZero.{next_from_zero}
use Rattle.group_reconcile.proofs.Settled.{settling_is}
use Rattle.group_reconcile.proofs.Settles.{AreConsistent-settled, IsSettling, Settling, Settles-settled, holders_of-kept}
use Rattle.group_reconcile.proofs.grants.Grants.settle_on.Goals as goal

on_err : {T E : Type 0} {P : Type 0} (r : Result T E) → P → OnErr r P
on_err (Ok x) h = tt
on_err (Err e) h = h

-- what the cells of a partition are, where the room was made before and the epoch is the target's
changed : (cells grown after : Cells) (parts next : Partitions) (n since epoch : ℕ) → grown ≡ cells → since ≡ epoch
    → after ≡ cells_put (cells_cleared grown next (in_order parts)) (record { holder = n; since = since }) (in_order next) → (p : Partition)
    → finite.get after p ≡ cond (has next p) (cond (is_some (finite.get cells p)) (finite.get cells p) (Some (record { holder = n; since = epoch }))) (cond (has parts p) None (finite.get cells p))
changed cells grown after parts next n since epoch same at is p =
    ap (λ m. finite.get m p) is
    ∙ (λ i. finite.get (cells_put (cells_cleared (same i) next (in_order parts)) (record { holder = n; since = at i }) (in_order next)) p)
    ∙ settling_is cells parts next (record { holder = n; since = epoch }) p

pub returns-in_err-number-clause-err : goal.returns-in_err-number-clause-err
returns-in_err-number-clause-err c =
    let us = c.number_for.new.self in
    on_err c.from_residual-in_err-number.result
    (ap (holders_of us) c.make_room_for.ensures.cells
    ∙ holders_of-kept c.self.inside.members us c.self.inside.table.cells c.self.invariant c.number_for.ensures.members c.number_for.ensures.parts
    ∙ c.self.view_is)

abbrev settling : goal.After-settle → Settling
settling c =
    record {
      before = c.self.inside.members;
      numbered = c.number_for.new.self;
      after = c.settle.new.members;
      cells_before = c.self.inside.table.cells;
      cells_after = c.settle.new.table.cells;
      member = c.args.member.now;
      number = c.in_ok-number.number;
      target = c.args.target.now.partitions;
      next = c.in_ok-next.next;
      epoch = c.args.target.now.epoch;
    }

is_settling : (c : goal.After-settle) → IsSettling (settling c)
is_settling c =
    let s = settling c in
    record {
      consistent = c.self.invariant;
      found = c.find-number.result;
      of_member = subst (λ id. IsNumberOf s.before id c.find-number.result) c.as_str.ensures.value c.find-number.ensures;
      is_next = c.in_ok-next.ensures;
      kept = c.number_for.ensures.members;
      parts = c.number_for.ensures.parts;
      of_number = c.in_ok-number.ensures.number;
      changed = changed s.cells_before c.make_room_for.new.table.cells s.cells_after (parts_of s.numbered s.number) s.next s.number c.epoch.result s.epoch c.make_room_for.ensures.cells c.epoch.ensures c.settle.ensures.cells;
      sets = c.settle.ensures.members;
    }

pub make_room_for-requires : goal.make_room_for-requires
make_room_for-requires c = next_from_zero c.self.inside.table.cells c.find-number.result c.args.target.now.partitions c.in_ok-next.next c.in_ok-next.ensures c.requires

pub invariant_of-self-2 : goal.invariant_of-self-2
invariant_of-self-2 c = AreConsistent-settled (settling c) (is_settling c)

pub returns-clause-settled : goal.returns-clause-settled
returns-clause-settled c =
    subst (λ h. Settles h c.args.member.now c.args.target.now.partitions c.args.target.now.epoch (holders_of c.settle.new.members c.settle.new.table.cells)) c.self.view_is
    (Settles-settled (settling c) (is_settling c))
