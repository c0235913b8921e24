use Rattle.std.proofs.Common.{ℕ, ◌-◌, ◌^◌, MatchOption, Some, ap, arith, subst, sym}
use Rattle.std.proofs.lemmas.Bool.Decides.{nat_tests}
use Rattle.group_types.specs.Group.{Records}
use Rattle.group_types.specs.Tick.{NoneIsDue}
use Rattle.group_epochs.specs.Deadlines.{IsNoLater}
use Rattle.group_epochs.specs.Records.{RecordsState}
use Rattle.group_epochs.specs.Table.{IsFirstRank, records_in}
use Rattle.group_epochs.proofs.Earliest.{first_no_later, none_due_before}
use Rattle.group_epochs.proofs.Ranked.{first_due_is}
use Rattle.group_epochs.proofs.records.Records.due.Goals as goal

pub returns-then-lt-clause-first : goal.returns-then-lt-clause-first
returns-then-lt-clause-first c =
    subst (λ (s : RecordsState). NoneIsDue s.records c.args.clock) c.self.view_is
    (none_due_before (records_in c.self.inside.members.entries) c.self.inside.earliest c.args.clock c.self.invariant.deadlines (grind (arith, nat_tests)))

pub invariant_of-self : goal.invariant_of-self
invariant_of-self c =
    let rows = c.self.inside.members.entries in
    let started = c.start-start.ensures (records_in rows) c.self.invariant.none_before in
    let first : IsFirstRank (records_in rows) c.args.clock c.in-Some.rank =
    first_due_is rows c.self.inside.by_id.items c.self.invariant.table.order c.self.invariant.table.distinct c.args.clock c.start-start.result started (Some c.in-Some.rank) c.in-Some.ensures in
    record {
      table = c.self.invariant.table;
      member_order = c.self.invariant.member_order;
      counted = c.self.invariant.counted;
      some = c.self.invariant.some;
      deadlines = c.self.invariant.deadlines;
      none_before = first.before;
    }

pub invariant_of-self-in-None : goal.invariant_of-self-in-None
invariant_of-self-in-None c =
    let rows = c.self.inside.members.entries in
    record {
      table = c.self.invariant.table;
      member_order = c.self.invariant.member_order;
      counted = c.self.invariant.counted;
      some = c.self.invariant.some;
      deadlines = subst (λ (first : ℕ). IsNoLater first (records_in rows)) (sym c.first_of_all-self-inside.ensures) (first_no_later (2 ^ 64 - 1) rows);
      none_before = c.self.invariant.none_before;
    }

pub returns-in-Some-clause-first : goal.returns-in-Some-clause-first
returns-in-Some-clause-first c =
    let rows = c.self.inside.members.entries in
    let started = c.start-start.ensures (records_in rows) c.self.invariant.none_before in
    subst (λ (s : Records). IsFirstRank s c.args.clock c.in-Some.rank) (ap (λ (s : RecordsState). s.records) c.self.view_is)
    (first_due_is rows c.self.inside.by_id.items c.self.invariant.table.order c.self.invariant.table.distinct c.args.clock c.start-start.result started (Some c.in-Some.rank) c.in-Some.ensures)

pub returns-in-None-clause-first : goal.returns-in-None-clause-first
returns-in-None-clause-first c =
    let rows = c.self.inside.members.entries in
    let started = c.start-start.ensures (records_in rows) c.self.invariant.none_before in
    subst (λ (s : Records). MatchOption c.first_due-due.result (NoneIsDue s c.args.clock) (IsFirstRank s c.args.clock)) (ap (λ (s : RecordsState). s.records) c.self.view_is)
    (first_due_is rows c.self.inside.by_id.items c.self.invariant.table.order c.self.invariant.table.distinct c.args.clock c.start-start.result started c.first_due-due.result c.first_due-due.ensures)
