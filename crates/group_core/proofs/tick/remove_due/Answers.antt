use Rattle.std.proofs.Common.{◌≡◌, ℕ, ◌∷◌, length, Some, sym, ap, subst, ◌∙◌, arith}
use Rattle.group_types.specs.Text.{Text}
use Rattle.group_types.specs.Group.{Group, Record}
use Rattle.group_types.specs.Leave.{without_member}
use Rattle.group_types.specs.Tick.{due, without_members}
use Rattle.group_epochs.specs.Records.{RecordsState}
use Rattle.group_epochs.specs.Table.{IsFirstRank, member_at}
use Rattle.group_core.specs.declared.state.State.{State}
use Rattle.group_core.specs.GroupView.{group_of}
use Rattle.group_core.specs.Steady.{AreMarked}
use Rattle.group_core.proofs.Ticking.{due_first, due_none, few_due}
use Rattle.group_core.proofs.tick.remove_due.Goals as goal

-- the group whose records are these
abbrev group_with : State → RecordsState → Group
group_with s rs = record (group_of s) { records = rs.records; past = rs.past }

-- the first that is due has left
module _ (s : State) (searched : RecordsState) (same : searched ≡ s.records) (rank : ℕ) (first : IsFirstRank s.records.records s.clock rank) (new : Group)
    (leaves : (m : Text) (r : Record) → member_at searched.records rank ≡ Some (m, r) → new ≡ without_member (group_with s searched) m r.stamp) where
  left_group : new ≡ without_member (group_of s) first.id first.kept.stamp
  left_group =
      leaves first.id first.kept (ap (λ rs. member_at rs.records rank) same ∙ first.there)
      ∙ ap (λ rs. without_member (group_with s rs) first.id first.kept.stamp) same

  due_before : due (group_of s) ≡ (first.id, first.kept) ∷ due new
  due_before =
      due_first (group_of s) rank first.id first.kept first.there first.before first.first.due
      ∙ ap (λ g. (first.id, first.kept) ∷ due g) (sym left_group)

  same_end : without_members new (due new) ≡ without_members (group_of s) (due (group_of s))
  same_end = ap (λ g. without_members g (due new)) left_group ∙ ap (without_members (group_of s)) (sym due_before)

pub remove_at-requires-clause-marks : goal.remove_at-requires-clause-marks
remove_at-requires-clause-marks c =
    subst (λ (rs : RecordsState). AreMarked (group_with c.loop-rank.state rs) rs.marks) (sym c.due.ensures.same) c.loop-rank.invariant.marks

pub overflow_add-removed : goal.overflow_add-removed
overflow_add-removed c =
    let first = c.in-Some.ensures.first in
    let dues = due_before c.loop-rank.state c.due.new.self c.due.ensures.same c.in-Some.rank first (group_of c.remove_at.new.state) c.remove_at.ensures.group in
    let few = few_due (group_of c.args.state.now) c.requires.sound in
    let count = c.loop-rank.invariant.count in
    omega (arith, ap length dues, few, count)

pub loop-rank-smaller : goal.loop-rank-smaller
loop-rank-smaller c =
    let first = c.in-Some.ensures.first in
    let dues = due_before c.loop-rank.state c.due.new.self c.due.ensures.same c.in-Some.rank first (group_of c.remove_at.new.state) c.remove_at.ensures.group in
    omega (arith, ap length dues)

pub loop-rank-preserved : goal.loop-rank-preserved
loop-rank-preserved c =
    let s = c.loop-rank.state in
    let first = c.in-Some.ensures.first in
    let dues = due_before s c.due.new.self c.due.ensures.same c.in-Some.rank first (group_of c.remove_at.new.state) c.remove_at.ensures.group in
    let count = c.loop-rank.invariant.count in
    record {
      rest = same_end s c.due.new.self c.due.ensures.same c.in-Some.rank first (group_of c.remove_at.new.state) c.remove_at.ensures.group ∙ c.loop-rank.invariant.rest;
      count = omega (arith, ap length dues, count);
      marks = c.remove_at.ensures.marks;
      since = λ p d is. c.loop-rank.invariant.since p d (c.remove_at.ensures.since p d is);
    }

pub returns-clause-group : goal.returns-clause-group
returns-clause-group c =
    let s = c.loop-rank.state in
    ap (group_with s) c.due.ensures.same
    ∙ ap (without_members (group_of s)) (sym (due_none (group_of s) c.in_default.ensures.first))
    ∙ c.loop-rank.invariant.rest

pub returns-clause-removed : goal.returns-clause-removed
returns-clause-removed c =
    let none = due_none (group_of c.loop-rank.state) c.in_default.ensures.first in
    let count = c.loop-rank.invariant.count in
    omega (arith, ap length none, count)

pub returns-clause-marks : goal.returns-clause-marks
returns-clause-marks c =
    subst (λ (rs : RecordsState). AreMarked (group_with c.loop-rank.state rs) rs.marks) (sym c.due.ensures.same) c.loop-rank.invariant.marks
