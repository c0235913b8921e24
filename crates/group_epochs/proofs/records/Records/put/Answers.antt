use Rattle.std.proofs.Common.{◌≡◌, Some, arith, refl, ap, subst, ◌∙◌, sym}
use Rattle.std.specs.FinMap as finite
use Rattle.indexmap.specs.IndexMap.{get_by_text}
use Rattle.group_types.specs.Group.{Record, Records}
use Rattle.group_types.specs.Members.{with_record}
use Rattle.group_types.specs.Sets.{size}
use Rattle.group_types.specs.Topics.{Names}
use Rattle.group_epochs.specs.Counts.{AreCounts, once}
use Rattle.group_epochs.specs.Records.{CanReplace, HasNamesRoom, KeepsNames, RecordsState, members_in}
use Rattle.group_epochs.specs.Table.{records_in, with_record_kept}
use Rattle.group_epochs.proofs.Counted.{as_many_texts, counts_replaced, counts_stay, few_counted, times_in_texts}
use Rattle.group_epochs.proofs.Earliest.{rewritten_later}
use Rattle.group_epochs.proofs.Remembered.{without_absent}
use Rattle.group_epochs.proofs.Rows.{get-records_in, kept_in}
use Rattle.group_epochs.proofs.Tabled.{mark_cleared, member_there, record_rewritten, table_rewritten, the_some}
use Rattle.group_epochs.proofs.records.Records.put.Goals as goal

pub put-former-requires-clause-there : goal.put-former-requires-clause-there
put-former-requires-clause-there c = member_there c.self.inside.members c.args.self.now c.args.id.now (ap (λ (s : RecordsState). s.records) c.self.view_is) c.requires.there

pub count_up-requires-clause-room : goal.count_up-requires-clause-room
count_up-requires-clause-room c =
    let can : HasNamesRoom c.args.self.now c.args.record c.in-Some.names = subst (CanReplace c.args.self.now c.args.id.now c.args.record) c.in-Some.is c.requires.names in
    let long = as_many_texts c.into_texts.result.items c.in-Some.names c.into_texts.ensures in
    let many = ap size can.0 in
    let room = can.1 in
    let spare_is = ap (λ (s : RecordsState). s.names_room) c.self.view_is in
    omega (arith, long, many, room, spare_is, c.into_texts.result.ok, c.count_down.ensures.room)

pub count_up-requires-clause-fits : goal.count_up-requires-clause-fits
count_up-requires-clause-fits c = λ q.
    let few = few_counted c.self.inside.members c.self.inside.by_id.items c.self.inside.past c.self.inside.counts c.self.invariant.table c.self.invariant.counted (omega (arith, c.self.inside.by_id.ok, c.self.inside.by_id.small)) q in
    let less = c.count_down.ensures.counted q in
    omega (arith, few, less)

pub invariant_of-self : goal.invariant_of-self
invariant_of-self c =
    let m = c.self.inside.members in
    let id = c.args.id.now in
    let there = member_there m c.args.self.now id (ap (λ (s : RecordsState). s.records) c.self.view_is) c.requires.there in
    let was = the_some (get_by_text m id) there in
    let found : finite.get (records_in m.entries) id ≡ Some was.0.kept = get-records_in m.entries id ∙ ap kept_in was.1 in
    let kept = record_rewritten m c.put-former.new.members c.self.inside.past id (with_record_kept c.args.record) c.put-former.ensures.rewritten c.self.invariant.table there c.args.record (λ e at. refl) in
    record {
      table = table_rewritten m c.put-former.new.members c.self.inside.past id (with_record_kept c.args.record) c.put-former.ensures.rewritten c.self.invariant.table there (λ e. refl);
      member_order = c.put-former.ensures.member_order;
      counted =
          let can : HasNamesRoom c.args.self.now c.args.record c.in-Some.names = subst (CanReplace c.args.self.now id c.args.record) c.in-Some.is c.requires.names in
          let former = c.put-former.ensures.given was.0 was.1 in
          subst (λ (s : Records). AreCounts s c.count_up.new.counts) (sym kept)
          (counts_replaced c.self.inside.counts c.count_up.new.counts (records_in m.entries) c.self.invariant.counted id was.0.kept c.args.record found
          (λ q.
          let up = c.count_up.ensures.counted q in
          let down = c.count_down.ensures.counted q in
          let new = times_in_texts c.into_texts.result.items c.in-Some.names c.into_texts.ensures q in
          let gone = ap (λ (n : Names). once n q) (c.names.ensures ∙ ap (λ (r : Record). r.names) former) in
          let come = ap (λ (n : Names). once n q) can.0 in
          omega (arith, up, down, new, gone, come)));
      some = c.count_up.ensures.some (c.count_down.ensures.some c.self.invariant.some);
      deadlines =
          rewritten_later m c.put-former.new.members c.self.inside.past id (with_record_kept c.args.record) c.put-former.ensures.rewritten c.self.invariant.table there
          c.self.inside.earliest c.earlier-self-inside.result (omega (arith, c.earlier-self-inside.ensures)) (λ e _. omega (arith, c.earlier-self-inside.ensures, c.first_deadline.ensures)) c.self.invariant.deadlines;
      none_before = c.restart.ensures (records_in c.put-former.new.members.entries);
    }

pub invariant_of-self-in_default : goal.invariant_of-self-in_default
invariant_of-self-in_default c =
    let m = c.self.inside.members in
    let id = c.args.id.now in
    let there = member_there m c.args.self.now id (ap (λ (s : RecordsState). s.records) c.self.view_is) c.requires.there in
    let was = the_some (get_by_text m id) there in
    let found : finite.get (records_in m.entries) id ≡ Some was.0.kept = get-records_in m.entries id ∙ ap kept_in was.1 in
    let kept = record_rewritten m c.put-former.new.members c.self.inside.past id (with_record_kept c.args.record) c.put-former.ensures.rewritten c.self.invariant.table there c.args.record (λ e at. refl) in
    record {
      table = table_rewritten m c.put-former.new.members c.self.inside.past id (with_record_kept c.args.record) c.put-former.ensures.rewritten c.self.invariant.table there (λ e. refl);
      member_order = c.put-former.ensures.member_order;
      counted =
          let same : KeepsNames c.args.self.now.records id c.args.record = subst (CanReplace c.args.self.now id c.args.record) c.in_default.is c.requires.names in
          subst (λ (s : Records). AreCounts s c.self.inside.counts) (sym kept)
          (counts_stay c.self.inside.counts (records_in m.entries) c.self.invariant.counted id was.0.kept c.args.record found
          (same was.0.kept (sym (ap (λ (s : RecordsState). finite.get s.records id) c.self.view_is) ∙ found)));
      some = c.self.invariant.some;
      deadlines =
          rewritten_later m c.put-former.new.members c.self.inside.past id (with_record_kept c.args.record) c.put-former.ensures.rewritten c.self.invariant.table there
          c.self.inside.earliest c.earlier-self-inside.result (omega (arith, c.earlier-self-inside.ensures)) (λ e _. omega (arith, c.earlier-self-inside.ensures, c.first_deadline.ensures)) c.self.invariant.deadlines;
      none_before = c.restart.ensures (records_in c.put-former.new.members.entries);
    }

pub returns-in-Some-clause-members : goal.returns-in-Some-clause-members
returns-in-Some-clause-members c =
    let there = member_there c.self.inside.members c.args.self.now c.args.id.now (ap (λ (s : RecordsState). s.records) c.self.view_is) c.requires.there in
    let kept = record_rewritten c.self.inside.members c.put-former.new.members c.self.inside.past c.args.id.now (with_record_kept c.args.record) c.put-former.ensures.rewritten c.self.invariant.table there c.args.record (λ e at. refl) in
    let stays = without_absent c.self.inside.past.past c.args.id.now (c.self.invariant.table.apart c.args.id.now there) in
    (λ i. record { records = kept i; past = sym stays i }) ∙ ap (λ (s : RecordsState). with_record (members_in s) c.args.id.now c.args.record) c.self.view_is

pub returns-in-Some-clause-marks : goal.returns-in-Some-clause-marks
returns-in-Some-clause-marks c =
    let there = member_there c.self.inside.members c.args.self.now c.args.id.now (ap (λ (s : RecordsState). s.records) c.self.view_is) c.requires.there in
    mark_cleared c.self.inside.members c.put-former.new.members c.self.inside.past c.args.id.now (with_record_kept c.args.record) c.put-former.ensures.rewritten c.self.invariant.table there (λ e. refl) ∙ ap (λ (s : RecordsState). finite.remove s.marks c.args.id.now) c.self.view_is

pub returns-clause-members : goal.returns-clause-members
returns-clause-members c =
    let there = member_there c.self.inside.members c.args.self.now c.args.id.now (ap (λ (s : RecordsState). s.records) c.self.view_is) c.requires.there in
    let kept = record_rewritten c.self.inside.members c.put-former.new.members c.self.inside.past c.args.id.now (with_record_kept c.args.record) c.put-former.ensures.rewritten c.self.invariant.table there c.args.record (λ e at. refl) in
    let stays = without_absent c.self.inside.past.past c.args.id.now (c.self.invariant.table.apart c.args.id.now there) in
    (λ i. record { records = kept i; past = sym stays i }) ∙ ap (λ (s : RecordsState). with_record (members_in s) c.args.id.now c.args.record) c.self.view_is

pub returns-clause-marks : goal.returns-clause-marks
returns-clause-marks c =
    let there = member_there c.self.inside.members c.args.self.now c.args.id.now (ap (λ (s : RecordsState). s.records) c.self.view_is) c.requires.there in
    mark_cleared c.self.inside.members c.put-former.new.members c.self.inside.past c.args.id.now (with_record_kept c.args.record) c.put-former.ensures.rewritten c.self.invariant.table there (λ e. refl) ∙ ap (λ (s : RecordsState). finite.remove s.marks c.args.id.now) c.self.view_is
