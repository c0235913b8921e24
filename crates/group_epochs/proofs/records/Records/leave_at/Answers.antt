use Rattle.std.proofs.Common.{◌≡◌, ◌-◌, ℕ, Some, is_some, ap, subst, sym, ◌∙◌}
use Rattle.std.specs.Prelude.{IsSome}
use Rattle.std.specs.FinMap as finite
use Rattle.indexmap.specs.IndexMap.{get_by_text}
use Rattle.group_types.specs.Group.{Record, Records}
use Rattle.group_types.specs.Members.{remembering, without_record}
use Rattle.group_types.specs.Text.{Text}
use Rattle.group_types.specs.Topics.{Names}
use Rattle.group_types.proofs.Entries.{entries_found}
use Rattle.group_epochs.specs.Counts.{AreCounts, count_of, once}
use Rattle.group_epochs.specs.Deadlines.{IsNoLater, IsSearched}
use Rattle.group_epochs.specs.Records.{RecordsState, members_in}
use Rattle.group_epochs.specs.Table.{member_at, records_in}
use Rattle.group_epochs.specs.declared.entry.Entry.{Entry}
use Rattle.group_epochs.proofs.Counted.{counts_without}
use Rattle.group_epochs.proofs.Earliest.{no_later_without}
use Rattle.group_epochs.proofs.Ranked.{entry_there as each_there, rank_of_member}
use Rattle.group_epochs.proofs.Rows.{get-records_in, kept_in}
use Rattle.group_epochs.proofs.Tabled.{entry_there, given_absent, given_is, kept_of_found, mark_gone, record_gone, room_for_given, table_without, the_some}
use Rattle.group_epochs.proofs.records.Records.leave_at.Goals as goal

-- the member at the rank, as the records' map has it
found : (records : Records) (rank : ℕ) (m : Text × Record) → member_at records rank ≡ Some m → finite.get records m.0 ≡ Some m.1
found records rank m is = each_there (finite.entries records) (λ e. finite.get records e.0 ≡ Some e.1) rank m (entries_found records) is

-- there is a member at the rank
who : (records : Records) (s : RecordsState) (rank : ℕ) → records ≡ s.records → IsSome (member_at s.records rank) → (m : Text × Record) × (member_at records rank ≡ Some m)
who records s rank same there = the_some (member_at records rank) (subst (λ (r : Records). IsSome (member_at r rank)) (sym same) there)

pub take_out_at-former-requires-clause-there : goal.take_out_at-former-requires-clause-there
take_out_at-former-requires-clause-there c =
    let rows = c.self.inside.members.entries in
    let at = who (records_in rows) c.args.self.now c.args.rank (ap (λ (s : RecordsState). s.records) c.self.view_is) c.requires in
    (rank_of_member rows c.self.inside.by_id.items c.self.invariant.table.order c.self.invariant.table.distinct c.args.rank at.0 at.1).0

pub remember-requires-clause-new : goal.remember-requires-clause-new
remember-requires-clause-new c =
    let rows = c.self.inside.members.entries in
    let at = who (records_in rows) c.args.self.now c.args.rank (ap (λ (s : RecordsState). s.records) c.self.view_is) c.requires in
    let ranked = rank_of_member rows c.self.inside.by_id.items c.self.invariant.table.order c.self.invariant.table.distinct c.args.rank at.0 at.1 in
    let there : IsSome (get_by_text c.self.inside.members at.0.0) = entry_there c.self.inside.members at.0.0 (ap is_some (found (records_in rows) c.args.rank at.0 at.1)) in
    let taken = c.take_out_at-former.ensures.taken at.0.0 ranked in
    given_absent c.self.inside.members c.take_out_at-former.new.members c.self.inside.past c.self.inside.past at.0.0 c.take_out_at-former.result.id c.stamp-latest.result taken c.self.invariant.table there

pub remember-requires-clause-room : goal.remember-requires-clause-room
remember-requires-clause-room c =
    let rows = c.self.inside.members.entries in
    let at = who (records_in rows) c.args.self.now c.args.rank (ap (λ (s : RecordsState). s.records) c.self.view_is) c.requires in
    let ranked = rank_of_member rows c.self.inside.by_id.items c.self.invariant.table.order c.self.invariant.table.distinct c.args.rank at.0 at.1 in
    let there : IsSome (get_by_text c.self.inside.members at.0.0) = entry_there c.self.inside.members at.0.0 (ap is_some (found (records_in rows) c.args.rank at.0 at.1)) in
    let taken = c.take_out_at-former.ensures.taken at.0.0 ranked in
    room_for_given c.self.inside.members c.take_out_at-former.new.members c.self.inside.past c.self.inside.past at.0.0 c.take_out_at-former.result.id c.stamp-latest.result taken c.self.invariant.table there

pub invariant_of-self : goal.invariant_of-self
invariant_of-self c =
    let rows = c.self.inside.members.entries in
    let at = who (records_in rows) c.args.self.now c.args.rank (ap (λ (s : RecordsState). s.records) c.self.view_is) c.requires in
    let ranked = rank_of_member rows c.self.inside.by_id.items c.self.invariant.table.order c.self.invariant.table.distinct c.args.rank at.0 at.1 in
    let there : IsSome (get_by_text c.self.inside.members at.0.0) = entry_there c.self.inside.members at.0.0 (ap is_some (found (records_in rows) c.args.rank at.0 at.1)) in
    let taken = c.take_out_at-former.ensures.taken at.0.0 ranked in
    let was = the_some (get_by_text c.self.inside.members at.0.0) there in
    let former = c.take_out_at-former.ensures.given at.0.0 was.0 ranked was.1 in
    let kept = record_gone c.self.inside.members c.take_out_at-former.new.members c.self.inside.past c.remember.new.self at.0.0 c.take_out_at-former.result.id c.stamp-latest.result taken c.self.invariant.table there in
    record {
      table = table_without c.self.inside.members c.take_out_at-former.new.members c.self.inside.past c.remember.new.self at.0.0 c.take_out_at-former.result.id c.stamp-latest.result taken c.self.invariant.table there
          c.remember.ensures.past c.remember.ensures.places c.take_out_at-former.new.by_id.items c.take_out_at-former.ensures.order;
      member_order = c.take_out_at-former.ensures.member_order;
      counted =
          subst (λ (s : Records). AreCounts s c.count_down.new.counts) (sym kept)
          (counts_without c.self.inside.counts c.count_down.new.counts (records_in rows) c.self.invariant.counted at.0.0 was.0.kept
          (get-records_in rows at.0.0 ∙ ap kept_in was.1)
          (λ q. c.count_down.ensures.counted q ∙ ap (λ (n : Names). count_of c.self.inside.counts q - once n q) (c.names.ensures ∙ ap (λ (e : Entry). e.kept.names) former)));
      some = c.count_down.ensures.some c.self.invariant.some;
      deadlines = subst (IsNoLater c.self.inside.earliest) (sym kept) (no_later_without (records_in rows) c.self.inside.earliest c.self.invariant.deadlines at.0.0);
      none_before = subst (IsSearched c.leave_out.new.self) (sym kept) (c.leave_out.ensures (records_in rows) at.0.0 at.0.1 at.1 c.self.invariant.none_before);
    }

pub returns-clause-members : goal.returns-clause-members
returns-clause-members c = λ m r is.
    let rows = c.self.inside.members.entries in
    let here : member_at (records_in rows) c.args.rank ≡ Some (m, r) = ap (λ (s : Records). member_at s c.args.rank) (ap (λ (s : RecordsState). s.records) c.self.view_is) ∙ is in
    let ranked = rank_of_member rows c.self.inside.by_id.items c.self.invariant.table.order c.self.invariant.table.distinct c.args.rank (m, r) here in
    let kept_is = found (records_in rows) c.args.rank (m, r) here in
    let there = entry_there c.self.inside.members m (ap is_some kept_is) in
    let taken = c.take_out_at-former.ensures.taken m ranked in
    let was = the_some (get_by_text c.self.inside.members m) there in
    let former = c.take_out_at-former.ensures.given m was.0 ranked was.1 in
    let last : c.stamp-latest.result ≡ r.stamp =
    c.stamp-latest.ensures ∙ ap (λ (e : Entry). e.kept.stamp) former ∙ ap (λ (r : Record). r.stamp) (kept_of_found c.self.inside.members m was.0 r was.1 kept_is) in
    let kept = record_gone c.self.inside.members c.take_out_at-former.new.members c.self.inside.past c.remember.new.self m c.take_out_at-former.result.id c.stamp-latest.result taken c.self.invariant.table there in
    let given = given_is c.self.inside.members c.take_out_at-former.new.members c.self.inside.past c.remember.new.self m c.take_out_at-former.result.id c.stamp-latest.result taken c.self.invariant.table there in
    let past = c.remember.ensures.past ∙ (λ i. remembering c.self.inside.past.past (given i) (last i)) in
    c.give_back.ensures.members ∙ (λ i. record { records = kept i; past = past i }) ∙ ap (λ (s : RecordsState). without_record (members_in s) m r.stamp) c.self.view_is

pub returns-clause-marks : goal.returns-clause-marks
returns-clause-marks c = λ m r is.
    let rows = c.self.inside.members.entries in
    let here : member_at (records_in rows) c.args.rank ≡ Some (m, r) = ap (λ (s : Records). member_at s c.args.rank) (ap (λ (s : RecordsState). s.records) c.self.view_is) ∙ is in
    let ranked = rank_of_member rows c.self.inside.by_id.items c.self.invariant.table.order c.self.invariant.table.distinct c.args.rank (m, r) here in
    let there = entry_there c.self.inside.members m (ap is_some (found (records_in rows) c.args.rank (m, r) here)) in
    c.give_back.ensures.marks
    ∙ mark_gone c.self.inside.members c.take_out_at-former.new.members c.self.inside.past c.remember.new.self m c.take_out_at-former.result.id c.stamp-latest.result (c.take_out_at-former.ensures.taken m ranked) c.self.invariant.table there
    ∙ ap (λ (s : RecordsState). finite.remove s.marks m) c.self.view_is
