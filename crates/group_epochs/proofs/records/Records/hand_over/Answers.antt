use Rattle.std.specs.VecDeque.{deque_capacity, deque_len}
use Rattle.std.proofs.Common.{◌+◌}
use Rattle.group_types.specs.Group.{Records}
use Rattle.group_types.specs.Sets.{size}
use Rattle.group_types.specs.Topics.{Names}
use Rattle.group_types.proofs.Lookups.{none_without}
use Rattle.group_epochs.specs.Counts.{AreCounts, count_of, once}
use Rattle.group_epochs.specs.declared.entry.Entry.{Entry}
use Rattle.group_epochs.proofs.Counted.{as_many_texts, counts_with, counts_without, few_counted, times_in_texts}
use Rattle.group_epochs.proofs.Rows.{get-records_in, kept_in}
use Rattle.std.proofs.Common.{min}
use Rattle.group_epochs.specs.Deadlines.{IsNoLater}
use Rattle.group_epochs.proofs.Earliest.{no_later_without, stored_later}
use Rattle.std.proofs.Common.{◌≡◌, ◌<◌, ◌-◌, None, refl, ap, arith, ◌∙◌, sym, subst}
use Rattle.std.specs.Prelude.{string_bytes}
use Rattle.std.specs.FinMap as finite
use Rattle.indexmap.specs.IndexMap.{get_by_text}
use Rattle.group_types.specs.Group.{Record}
use Rattle.group_types.specs.Members.{remembering, taken_over, without_past}
use Rattle.group_epochs.specs.Records.{Newcomer, RecordsState, members_in}
use Rattle.group_epochs.specs.Table.{records_in}
use Rattle.group_epochs.proofs.Tabled.{entry_absent, given_absent, heir_absent, heir_stays_forgotten, kept_of_found, mark_gone, marks_added, member_there, past_taken_over, record_added, record_gone, room_for_given, room_for_heir, room_for_one, table_added, table_forgotten, table_without, the_some}
use Rattle.group_epochs.proofs.records.Records.hand_over.Goals as goal

pub take_out-former-requires-clause-there : goal.take_out-former-requires-clause-there
take_out-former-requires-clause-there c =
    let m = c.self.inside.members in
    let past = c.self.inside.past in
    let there = member_there m c.args.self.now c.args.old.now (ap (λ (s : RecordsState). s.records) c.self.view_is) c.requires.there in
    there

pub count_up-requires-clause-room : goal.count_up-requires-clause-room
count_up-requires-clause-room c =
    let long = as_many_texts c.into_texts.result.items c.heir.inside.names c.into_texts.ensures in
    let names : c.heir.inside.names ≡ c.args.record.names = ap (λ (n : Newcomer). n.names) c.heir.view_is ∙ c.requires.room.names.0 in
    let many = ap size names in
    let room = c.requires.room.names.1 in
    let spare_is = ap (λ (s : RecordsState). s.names_room) c.self.view_is in
    omega (arith, long, many, room, spare_is, c.into_texts.result.ok, c.count_down.ensures.room)

pub count_up-requires-clause-fits : goal.count_up-requires-clause-fits
count_up-requires-clause-fits c = λ q.
    let few = few_counted c.self.inside.members c.self.inside.by_id.items c.self.inside.past c.self.inside.counts c.self.invariant.table c.self.invariant.counted (omega (arith, c.self.inside.by_id.ok, c.self.inside.by_id.small)) q in
    let less = c.count_down.ensures.counted q in
    omega (arith, few, less)

pub remember-requires-clause-new : goal.remember-requires-clause-new
remember-requires-clause-new c =
    let m = c.self.inside.members in
    let past = c.self.inside.past in
    let there = member_there m c.args.self.now c.args.old.now (ap (λ (s : RecordsState). s.records) c.self.view_is) c.requires.there in
    let heir = string_bytes c.heir.inside.text in
    let absent = entry_absent m heir
    (ap (finite.get (records_in m.entries)) (c.heir.invariant ∙ ap (λ (n : Newcomer). n.id) c.heir.view_is) ∙ ap (λ (s : RecordsState). finite.get s.records c.args.heir.id) c.self.view_is ∙ c.requires.absent) in
    let forgets = c.forget.ensures.past ∙ ap (without_past past.past) (c.as_str.ensures.value ∙ sym c.heir.invariant) in
    given_absent m c.take_out-former.new.members c.forget.new.self c.forget.new.self c.args.old.now c.take_out-former.result.id c.stamp-last.result c.take_out-former.ensures.taken (table_forgotten m c.take_out-former.new.members past c.forget.new.self c.forget.new.self c.args.old.now heir c.take_out-former.result.id c.stamp-last.result c.take_out-former.ensures.taken c.self.invariant.table there absent forgets c.forget.ensures.places) there

pub remember-requires-clause-room : goal.remember-requires-clause-room
remember-requires-clause-room c =
    let m = c.self.inside.members in
    let past = c.self.inside.past in
    let there = member_there m c.args.self.now c.args.old.now (ap (λ (s : RecordsState). s.records) c.self.view_is) c.requires.there in
    let heir = string_bytes c.heir.inside.text in
    let absent = entry_absent m heir
    (ap (finite.get (records_in m.entries)) (c.heir.invariant ∙ ap (λ (n : Newcomer). n.id) c.heir.view_is) ∙ ap (λ (s : RecordsState). finite.get s.records c.args.heir.id) c.self.view_is ∙ c.requires.absent) in
    let forgets = c.forget.ensures.past ∙ ap (without_past past.past) (c.as_str.ensures.value ∙ sym c.heir.invariant) in
    room_for_given m c.take_out-former.new.members c.forget.new.self c.forget.new.self c.args.old.now c.take_out-former.result.id c.stamp-last.result c.take_out-former.ensures.taken (table_forgotten m c.take_out-former.new.members past c.forget.new.self c.forget.new.self c.args.old.now heir c.take_out-former.result.id c.stamp-last.result c.take_out-former.ensures.taken c.self.invariant.table there absent forgets c.forget.ensures.places) there

pub add-requires-clause-absent : goal.add-requires-clause-absent
add-requires-clause-absent c =
    let m = c.self.inside.members in
    let past = c.self.inside.past in
    let there = member_there m c.args.self.now c.args.old.now (ap (λ (s : RecordsState). s.records) c.self.view_is) c.requires.there in
    let heir = string_bytes c.heir.inside.text in
    let absent = entry_absent m heir
    (ap (finite.get (records_in m.entries)) (c.heir.invariant ∙ ap (λ (n : Newcomer). n.id) c.heir.view_is) ∙ ap (λ (s : RecordsState). finite.get s.records c.args.heir.id) c.self.view_is ∙ c.requires.absent) in
    let forgets = c.forget.ensures.past ∙ ap (without_past past.past) (c.as_str.ensures.value ∙ sym c.heir.invariant) in
    heir_absent m c.take_out-former.new.members past c.forget.new.self c.remember.new.self c.args.old.now heir c.take_out-former.result.id c.stamp-last.result c.take_out-former.ensures.taken c.self.invariant.table there absent forgets c.forget.ensures.places

pub add-requires-clause-room : goal.add-requires-clause-room
add-requires-clause-room c =
    let some = (room_for_one c.self.inside.members c.self.inside.past (min (deque_capacity c.self.inside.by_id - deque_len c.self.inside.by_id) (deque_capacity c.self.inside.in_member_order - deque_len c.self.inside.in_member_order)) (subst (λ (s : RecordsState). 0 < s.room) (sym c.self.view_is) c.requires.room.room)).1 in
    let kept = c.take_out-former.ensures.taken.room in
    omega (arith, some, kept)

pub invariant_of-self : goal.invariant_of-self
invariant_of-self c =
    let m = c.self.inside.members in
    let past = c.self.inside.past in
    let there = member_there m c.args.self.now c.args.old.now (ap (λ (s : RecordsState). s.records) c.self.view_is) c.requires.there in
    let heir = string_bytes c.heir.inside.text in
    let absent = entry_absent m heir
    (ap (finite.get (records_in m.entries)) (c.heir.invariant ∙ ap (λ (n : Newcomer). n.id) c.heir.view_is) ∙ ap (λ (s : RecordsState). finite.get s.records c.args.heir.id) c.self.view_is ∙ c.requires.absent) in
    let forgets = c.forget.ensures.past ∙ ap (without_past past.past) (c.as_str.ensures.value ∙ sym c.heir.invariant) in
    let room = (room_for_one m past (min (deque_capacity c.self.inside.by_id - deque_len c.self.inside.by_id) (deque_capacity c.self.inside.in_member_order - deque_len c.self.inside.in_member_order)) (subst (λ (s : RecordsState). 0 < s.room) (sym c.self.view_is) c.requires.room.room)).2 in
    let between = table_without m c.take_out-former.new.members c.forget.new.self c.remember.new.self c.args.old.now c.take_out-former.result.id c.stamp-last.result c.take_out-former.ensures.taken (table_forgotten m c.take_out-former.new.members past c.forget.new.self c.remember.new.self c.args.old.now heir c.take_out-former.result.id c.stamp-last.result c.take_out-former.ensures.taken c.self.invariant.table there absent forgets c.forget.ensures.places) there
    c.remember.ensures.past c.remember.ensures.places c.take_out-former.new.by_id.items c.take_out-former.ensures.order in
    let stays = heir_stays_forgotten m c.take_out-former.new.members past c.forget.new.self c.remember.new.self c.args.old.now heir c.take_out-former.result.id c.stamp-last.result c.take_out-former.ensures.taken c.self.invariant.table there absent forgets c.forget.ensures.places c.remember.ensures.past in
    let added = record_added c.take_out-former.new.members c.add.new.members c.remember.new.self c.remember.new.self heir (record { id = c.heir.inside.id; kept = c.args.record; mark = None }) c.add.ensures.added between stays refl in
    let gone = record_gone m c.take_out-former.new.members c.forget.new.self c.remember.new.self c.args.old.now c.take_out-former.result.id c.stamp-last.result c.take_out-former.ensures.taken (table_forgotten m c.take_out-former.new.members past c.forget.new.self c.remember.new.self c.args.old.now heir c.take_out-former.result.id c.stamp-last.result c.take_out-former.ensures.taken c.self.invariant.table there absent forgets c.forget.ensures.places) there in
    record {
      table =
          table_added c.take_out-former.new.members c.add.new.members c.remember.new.self c.remember.new.self heir (record { id = c.heir.inside.id; kept = c.args.record; mark = None }) c.add.ensures.added between (heir_stays_forgotten m c.take_out-former.new.members past c.forget.new.self c.remember.new.self c.args.old.now heir c.take_out-former.result.id c.stamp-last.result c.take_out-former.ensures.taken c.self.invariant.table there absent forgets c.forget.ensures.places c.remember.ensures.past) refl
          (sym c.heir.invariant) (room_for_heir m c.take_out-former.new.members past c.forget.new.self c.remember.new.self c.args.old.now heir c.take_out-former.result.id c.stamp-last.result c.take_out-former.ensures.taken c.self.invariant.table there absent forgets c.forget.ensures.places c.remember.ensures.past c.remember.ensures.places room)
          c.add.new.by_id.items c.add.ensures.order;
      member_order = c.add.ensures.member_order;
      counted =
          let was = the_some (get_by_text m c.args.old.now) there in
          let former = c.take_out-former.ensures.given was.0 was.1 in
          let names : c.heir.inside.names ≡ c.args.record.names = ap (λ (n : Newcomer). n.names) c.heir.view_is ∙ c.requires.room.names.0 in
          let less =
          counts_without c.self.inside.counts c.count_down.new.counts (records_in m.entries) c.self.invariant.counted c.args.old.now was.0.kept (get-records_in m.entries c.args.old.now ∙ ap kept_in was.1)
          (λ q. c.count_down.ensures.counted q ∙ ap (λ (n : Names). count_of c.self.inside.counts q - once n q) (c.names.ensures ∙ ap (λ (e : Entry). e.kept.names) former)) in
          let none : finite.get (finite.remove (records_in m.entries) c.args.old.now) heir ≡ None =
          none_without (records_in m.entries) c.args.old.now heir (ap (finite.get (records_in m.entries)) (c.heir.invariant ∙ ap (λ (n : Newcomer). n.id) c.heir.view_is) ∙ ap (λ (s : RecordsState). finite.get s.records c.args.heir.id) c.self.view_is ∙ c.requires.absent) in
          subst (λ (s : Records). AreCounts s c.count_up.new.counts) (sym (added ∙ ap (λ (s : Records). finite.insert s heir c.args.record) gone))
          (counts_with c.count_down.new.counts c.count_up.new.counts (finite.remove (records_in m.entries) c.args.old.now) less heir c.args.record none
          (λ q. c.count_up.ensures.counted q ∙ ap (λ k. count_of c.count_down.new.counts q + k) (times_in_texts c.into_texts.result.items c.heir.inside.names c.into_texts.ensures q ∙ ap (λ (n : Names). once n q) names)));
      some = c.count_up.ensures.some (c.count_down.ensures.some c.self.invariant.some);
      deadlines =
          stored_later (records_in c.take_out-former.new.members.entries) (records_in c.add.new.members.entries) c.self.inside.earliest c.earlier-self-inside.result heir c.args.record added
          (c.earlier-self-inside.ensures ∙ ap (min c.self.inside.earliest) c.first_deadline.ensures)
          (subst (IsNoLater c.self.inside.earliest) (sym gone) (no_later_without (records_in m.entries) c.self.inside.earliest c.self.invariant.deadlines c.args.old.now));
      none_before = c.restart.ensures (records_in c.add.new.members.entries);
    }

pub returns-clause-members : goal.returns-clause-members
returns-clause-members c = λ r is.
    let m = c.self.inside.members in
    let past = c.self.inside.past in
    let there = member_there m c.args.self.now c.args.old.now (ap (λ (s : RecordsState). s.records) c.self.view_is) c.requires.there in
    let heir = string_bytes c.heir.inside.text in
    let absent = entry_absent m heir
    (ap (finite.get (records_in m.entries)) (c.heir.invariant ∙ ap (λ (n : Newcomer). n.id) c.heir.view_is) ∙ ap (λ (s : RecordsState). finite.get s.records c.args.heir.id) c.self.view_is ∙ c.requires.absent) in
    let forgets = c.forget.ensures.past ∙ ap (without_past past.past) (c.as_str.ensures.value ∙ sym c.heir.invariant) in
    let between = table_without m c.take_out-former.new.members c.forget.new.self c.remember.new.self c.args.old.now c.take_out-former.result.id c.stamp-last.result c.take_out-former.ensures.taken (table_forgotten m c.take_out-former.new.members past c.forget.new.self c.remember.new.self c.args.old.now heir c.take_out-former.result.id c.stamp-last.result c.take_out-former.ensures.taken c.self.invariant.table there absent forgets c.forget.ensures.places) there
    c.remember.ensures.past c.remember.ensures.places c.take_out-former.new.by_id.items c.take_out-former.ensures.order in
    let stays = heir_stays_forgotten m c.take_out-former.new.members past c.forget.new.self c.remember.new.self c.args.old.now heir c.take_out-former.result.id c.stamp-last.result c.take_out-former.ensures.taken c.self.invariant.table there absent forgets c.forget.ensures.places c.remember.ensures.past in
    let added = record_added c.take_out-former.new.members c.add.new.members c.remember.new.self c.remember.new.self heir (record { id = c.heir.inside.id; kept = c.args.record; mark = None }) c.add.ensures.added between stays refl in
    let gone = record_gone m c.take_out-former.new.members c.forget.new.self c.remember.new.self c.args.old.now c.take_out-former.result.id c.stamp-last.result c.take_out-former.ensures.taken (table_forgotten m c.take_out-former.new.members past c.forget.new.self c.remember.new.self c.args.old.now heir c.take_out-former.result.id c.stamp-last.result c.take_out-former.ensures.taken c.self.invariant.table there absent forgets c.forget.ensures.places) there in
    let here : heir ≡ c.args.heir.id = c.heir.invariant ∙ ap (λ (n : Newcomer). n.id) c.heir.view_is in
    let records = added ∙ (λ i. finite.insert (gone i) (here i) c.args.record) in
    let found = the_some (get_by_text m c.args.old.now) there in
    let kept = kept_of_found m c.args.old.now found.0 r found.1 (ap (λ (s : RecordsState). finite.get s.records c.args.old.now) c.self.view_is ∙ is) in
    let last = c.stamp-last.ensures ∙ ap (λ (e : Entry). e.kept.stamp) (c.take_out-former.ensures.given found.0 found.1) ∙ ap (λ (r : Record). r.stamp) kept in
    let past_is = past_taken_over m c.take_out-former.new.members past c.forget.new.self c.remember.new.self c.args.old.now heir c.take_out-former.result.id c.stamp-last.result c.take_out-former.ensures.taken c.self.invariant.table there absent forgets c.forget.ensures.places c.remember.ensures.past ∙ (λ i. remembering (without_past past.past (here i)) c.args.old.now (last i)) in
    (λ i. record { records = records i; past = past_is i }) ∙ ap (λ (s : RecordsState). taken_over (members_in s) c.args.old.now c.args.heir.id c.args.record r.stamp) c.self.view_is

pub returns-clause-marks : goal.returns-clause-marks
returns-clause-marks c =
    let m = c.self.inside.members in
    let past = c.self.inside.past in
    let there = member_there m c.args.self.now c.args.old.now (ap (λ (s : RecordsState). s.records) c.self.view_is) c.requires.there in
    let heir = string_bytes c.heir.inside.text in
    let absent = entry_absent m heir
    (ap (finite.get (records_in m.entries)) (c.heir.invariant ∙ ap (λ (n : Newcomer). n.id) c.heir.view_is) ∙ ap (λ (s : RecordsState). finite.get s.records c.args.heir.id) c.self.view_is ∙ c.requires.absent) in
    let forgets = c.forget.ensures.past ∙ ap (without_past past.past) (c.as_str.ensures.value ∙ sym c.heir.invariant) in
    let between = table_without m c.take_out-former.new.members c.forget.new.self c.remember.new.self c.args.old.now c.take_out-former.result.id c.stamp-last.result c.take_out-former.ensures.taken (table_forgotten m c.take_out-former.new.members past c.forget.new.self c.remember.new.self c.args.old.now heir c.take_out-former.result.id c.stamp-last.result c.take_out-former.ensures.taken c.self.invariant.table there absent forgets c.forget.ensures.places) there
    c.remember.ensures.past c.remember.ensures.places c.take_out-former.new.by_id.items c.take_out-former.ensures.order in
    let stays = heir_stays_forgotten m c.take_out-former.new.members past c.forget.new.self c.remember.new.self c.args.old.now heir c.take_out-former.result.id c.stamp-last.result c.take_out-former.ensures.taken c.self.invariant.table there absent forgets c.forget.ensures.places c.remember.ensures.past in
    marks_added c.take_out-former.new.members c.add.new.members c.remember.new.self c.remember.new.self heir (record { id = c.heir.inside.id; kept = c.args.record; mark = None }) c.add.ensures.added between stays refl (heir_absent m c.take_out-former.new.members past c.forget.new.self c.remember.new.self c.args.old.now heir c.take_out-former.result.id c.stamp-last.result c.take_out-former.ensures.taken c.self.invariant.table there absent forgets c.forget.ensures.places) refl
    ∙ mark_gone m c.take_out-former.new.members c.forget.new.self c.remember.new.self c.args.old.now c.take_out-former.result.id c.stamp-last.result c.take_out-former.ensures.taken (table_forgotten m c.take_out-former.new.members past c.forget.new.self c.remember.new.self c.args.old.now heir c.take_out-former.result.id c.stamp-last.result c.take_out-former.ensures.taken c.self.invariant.table there absent forgets c.forget.ensures.places) there
    ∙ ap (λ (s : RecordsState). finite.remove s.marks c.args.old.now) c.self.view_is
