use Rattle.std.proofs.Common.{◌-◌}
use Rattle.indexmap.specs.IndexMap.{get_by_text}
use Rattle.group_types.specs.Group.{Records}
use Rattle.group_types.specs.Topics.{Names}
use Rattle.group_epochs.specs.Counts.{AreCounts, count_of, once}
use Rattle.group_epochs.specs.declared.entry.Entry.{Entry}
use Rattle.group_epochs.proofs.Counted.{counts_without}
use Rattle.group_epochs.proofs.Rows.{get-records_in, kept_in}
use Rattle.group_epochs.proofs.Tabled.{the_some}
use Rattle.std.proofs.Common.{subst, sym}
use Rattle.group_epochs.specs.Deadlines.{IsNoLater}
use Rattle.group_epochs.specs.Table.{records_in}
use Rattle.group_epochs.proofs.Earliest.{no_later_without}
use Rattle.std.proofs.Common.{ap, ◌∙◌}
use Rattle.std.specs.FinMap as finite
use Rattle.group_types.specs.Members.{remembering, without_record}
use Rattle.group_types.specs.Text.{Text}
use Rattle.group_epochs.specs.Records.{RecordsState, members_in}
use Rattle.group_epochs.proofs.Tabled.{given_absent, given_is, mark_gone, member_there, record_gone, room_for_given, table_without}
use Rattle.group_epochs.proofs.records.Records.leave.Goals as goal

pub take_out-former-requires-clause-there : goal.take_out-former-requires-clause-there
take_out-former-requires-clause-there c = member_there c.self.inside.members c.args.self.now c.args.id.now (ap (λ (s : RecordsState). s.records) c.self.view_is) c.requires

pub remember-requires-clause-new : goal.remember-requires-clause-new
remember-requires-clause-new c =
    given_absent c.self.inside.members c.take_out-former.new.members c.self.inside.past c.self.inside.past c.args.id.now c.take_out-former.result.id c.args.stamp c.take_out-former.ensures.taken c.self.invariant.table
    (member_there c.self.inside.members c.args.self.now c.args.id.now (ap (λ (s : RecordsState). s.records) c.self.view_is) c.requires)

pub remember-requires-clause-room : goal.remember-requires-clause-room
remember-requires-clause-room c =
    room_for_given c.self.inside.members c.take_out-former.new.members c.self.inside.past c.self.inside.past c.args.id.now c.take_out-former.result.id c.args.stamp c.take_out-former.ensures.taken c.self.invariant.table
    (member_there c.self.inside.members c.args.self.now c.args.id.now (ap (λ (s : RecordsState). s.records) c.self.view_is) c.requires)

pub invariant_of-self : goal.invariant_of-self
invariant_of-self c =
    record {
      table =
          table_without c.self.inside.members c.take_out-former.new.members c.self.inside.past c.remember.new.self c.args.id.now c.take_out-former.result.id c.args.stamp c.take_out-former.ensures.taken c.self.invariant.table
          (member_there c.self.inside.members c.args.self.now c.args.id.now (ap (λ (s : RecordsState). s.records) c.self.view_is) c.requires)
          c.remember.ensures.past c.remember.ensures.places c.take_out-former.new.by_id.items c.take_out-former.ensures.order;
      member_order = c.take_out-former.ensures.member_order;
      counted =
          let there = member_there c.self.inside.members c.args.self.now c.args.id.now (ap (λ (s : RecordsState). s.records) c.self.view_is) c.requires in
          let was = the_some (get_by_text c.self.inside.members c.args.id.now) there in
          let former = c.take_out-former.ensures.given was.0 was.1 in
          let kept = record_gone c.self.inside.members c.take_out-former.new.members c.self.inside.past c.remember.new.self c.args.id.now c.take_out-former.result.id c.args.stamp c.take_out-former.ensures.taken c.self.invariant.table there in
          subst (λ (s : Records). AreCounts s c.count_down.new.counts) (sym kept)
          (counts_without c.self.inside.counts c.count_down.new.counts (records_in c.self.inside.members.entries) c.self.invariant.counted c.args.id.now was.0.kept
          (get-records_in c.self.inside.members.entries c.args.id.now ∙ ap kept_in was.1)
          (λ q. c.count_down.ensures.counted q ∙ ap (λ (n : Names). count_of c.self.inside.counts q - once n q) (c.names.ensures ∙ ap (λ (e : Entry). e.kept.names) former)));
      some = c.count_down.ensures.some c.self.invariant.some;
      deadlines =
          let kept = record_gone c.self.inside.members c.take_out-former.new.members c.self.inside.past c.remember.new.self c.args.id.now c.take_out-former.result.id c.args.stamp c.take_out-former.ensures.taken c.self.invariant.table
          (member_there c.self.inside.members c.args.self.now c.args.id.now (ap (λ (s : RecordsState). s.records) c.self.view_is) c.requires) in
          subst (IsNoLater c.self.inside.earliest) (sym kept) (no_later_without (records_in c.self.inside.members.entries) c.self.inside.earliest c.self.invariant.deadlines c.args.id.now);
      none_before = c.restart.ensures (records_in c.take_out-former.new.members.entries);
    }

pub returns-clause-members : goal.returns-clause-members
returns-clause-members c =
    let kept = record_gone c.self.inside.members c.take_out-former.new.members c.self.inside.past c.remember.new.self c.args.id.now c.take_out-former.result.id c.args.stamp c.take_out-former.ensures.taken c.self.invariant.table
    (member_there c.self.inside.members c.args.self.now c.args.id.now (ap (λ (s : RecordsState). s.records) c.self.view_is) c.requires) in
    let given = given_is c.self.inside.members c.take_out-former.new.members c.self.inside.past c.remember.new.self c.args.id.now c.take_out-former.result.id c.args.stamp c.take_out-former.ensures.taken c.self.invariant.table
    (member_there c.self.inside.members c.args.self.now c.args.id.now (ap (λ (s : RecordsState). s.records) c.self.view_is) c.requires) in
    let past = c.remember.ensures.past ∙ ap (λ (t : Text). remembering c.self.inside.past.past t c.args.stamp) given in
    c.give_back.ensures.members ∙ (λ i. record { records = kept i; past = past i }) ∙ ap (λ (s : RecordsState). without_record (members_in s) c.args.id.now c.args.stamp) c.self.view_is

pub returns-clause-marks : goal.returns-clause-marks
returns-clause-marks c =
    c.give_back.ensures.marks
    ∙ mark_gone c.self.inside.members c.take_out-former.new.members c.self.inside.past c.remember.new.self c.args.id.now c.take_out-former.result.id c.args.stamp c.take_out-former.ensures.taken c.self.invariant.table
    (member_there c.self.inside.members c.args.self.now c.args.id.now (ap (λ (s : RecordsState). s.records) c.self.view_is) c.requires)
    ∙ ap (λ (s : RecordsState). finite.remove s.marks c.args.id.now) c.self.view_is
