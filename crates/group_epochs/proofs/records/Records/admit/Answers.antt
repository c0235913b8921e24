use Rattle.std.specs.VecDeque.{deque_capacity, deque_len}
use Rattle.std.proofs.Common.{◌+◌}
use Rattle.group_types.specs.Group.{Records}
use Rattle.group_types.specs.Sets.{size}
use Rattle.group_types.specs.Topics.{Names}
use Rattle.group_epochs.specs.Counts.{AreCounts, count_of, once}
use Rattle.group_epochs.proofs.Counted.{as_many_texts, counts_with, few_counted, times_in_texts}
use Rattle.group_epochs.proofs.Earliest.{stored_later}
use Rattle.std.proofs.Common.{min, ◌≡◌, ◌<◌, None, refl, ap, ◌∙◌, sym, subst}
use Rattle.std.specs.Prelude.{string_bytes}
use Rattle.std.proofs.Common.{arith, ◌-◌}
use Rattle.std.specs.FinMap as finite
use Rattle.group_types.specs.Members.{with_record, without_past}
use Rattle.group_epochs.specs.Records.{Newcomer, RecordsState, members_in}
use Rattle.group_epochs.specs.Table.{records_in}
use Rattle.group_epochs.proofs.Tabled.{entry_absent, marks_added, record_added, room_for_one, table_added}
use Rattle.group_epochs.proofs.records.Records.admit.Goals as goal

pub count_up-requires-clause-room : goal.count_up-requires-clause-room
count_up-requires-clause-room c =
    let long = as_many_texts c.into_texts.result.items c.new.inside.names c.into_texts.ensures in
    let names : c.new.inside.names ≡ c.args.record.names = ap (λ (n : Newcomer). n.names) c.new.view_is ∙ c.requires.room.names.0 in
    let many = ap size names in
    let room = c.requires.room.names.1 in
    let spare_is = ap (λ (s : RecordsState). s.names_room) c.self.view_is in
    omega (arith, long, many, room, spare_is, c.into_texts.result.ok)

pub count_up-requires-clause-fits : goal.count_up-requires-clause-fits
count_up-requires-clause-fits c = few_counted c.self.inside.members c.self.inside.by_id.items c.self.inside.past c.self.inside.counts c.self.invariant.table c.self.invariant.counted (omega (arith, c.self.inside.by_id.ok, c.self.inside.by_id.small))

pub add-requires-clause-room : goal.add-requires-clause-room
add-requires-clause-room c =
    (room_for_one c.self.inside.members c.self.inside.past (min (deque_capacity c.self.inside.by_id - deque_len c.self.inside.by_id) (deque_capacity c.self.inside.in_member_order - deque_len c.self.inside.in_member_order)) (subst (λ (s : RecordsState). 0 < s.room) (sym c.self.view_is) c.requires.room.room)).1

pub add-requires-clause-order_room : goal.add-requires-clause-order_room
add-requires-clause-order_room c =
    let some = (room_for_one c.self.inside.members c.self.inside.past (min (deque_capacity c.self.inside.by_id - deque_len c.self.inside.by_id) (deque_capacity c.self.inside.in_member_order - deque_len c.self.inside.in_member_order)) (subst (λ (s : RecordsState). 0 < s.room) (sym c.self.view_is) c.requires.room.room)).0 in
    omega (arith, some)

pub add-requires-clause-member_room : goal.add-requires-clause-member_room
add-requires-clause-member_room c =
    let some = (room_for_one c.self.inside.members c.self.inside.past (min (deque_capacity c.self.inside.by_id - deque_len c.self.inside.by_id) (deque_capacity c.self.inside.in_member_order - deque_len c.self.inside.in_member_order)) (subst (λ (s : RecordsState). 0 < s.room) (sym c.self.view_is) c.requires.room.room)).0 in
    omega (arith, some)

pub add-requires-clause-absent : goal.add-requires-clause-absent
add-requires-clause-absent c =
    entry_absent c.self.inside.members (string_bytes c.new.inside.text)
    (ap (finite.get (records_in c.self.inside.members.entries)) (c.new.invariant ∙ ap (λ (n : Newcomer). n.id) c.new.view_is) ∙ ap (λ (s : RecordsState). finite.get s.records c.args.new.id) c.self.view_is ∙ c.requires.absent)

pub invariant_of-self : goal.invariant_of-self
invariant_of-self c =
    record {
      table =
          table_added c.self.inside.members c.add.new.members c.self.inside.past c.forget.new.self (string_bytes c.new.inside.text)
          (record { id = c.new.inside.id; kept = c.args.record; mark = None }) c.add.ensures.added c.self.invariant.table
          (c.forget.ensures.past ∙ ap (without_past c.self.inside.past.past) (c.as_str.ensures.value ∙ sym c.new.invariant)) c.forget.ensures.places
          (sym c.new.invariant)
          (room_for_one c.self.inside.members c.self.inside.past (min (deque_capacity c.self.inside.by_id - deque_len c.self.inside.by_id) (deque_capacity c.self.inside.in_member_order - deque_len c.self.inside.in_member_order)) (subst (λ (s : RecordsState). 0 < s.room) (sym c.self.view_is) c.requires.room.room)).2
          c.add.new.by_id.items c.add.ensures.order;
      member_order = c.add.ensures.member_order;
      counted =
          let names : c.new.inside.names ≡ c.args.record.names = ap (λ (n : Newcomer). n.names) c.new.view_is ∙ c.requires.room.names.0 in
          let kept =
          record_added c.self.inside.members c.add.new.members c.self.inside.past c.forget.new.self (string_bytes c.new.inside.text)
          (record { id = c.new.inside.id; kept = c.args.record; mark = None }) c.add.ensures.added c.self.invariant.table
          (c.forget.ensures.past ∙ ap (without_past c.self.inside.past.past) (c.as_str.ensures.value ∙ sym c.new.invariant)) c.forget.ensures.places in
          subst (λ (s : Records). AreCounts s c.count_up.new.counts) (sym kept)
          (counts_with c.self.inside.counts c.count_up.new.counts (records_in c.self.inside.members.entries) c.self.invariant.counted (string_bytes c.new.inside.text) c.args.record
          (ap (finite.get (records_in c.self.inside.members.entries)) (c.new.invariant ∙ ap (λ (n : Newcomer). n.id) c.new.view_is) ∙ ap (λ (s : RecordsState). finite.get s.records c.args.new.id) c.self.view_is ∙ c.requires.absent)
          (λ q. c.count_up.ensures.counted q ∙ ap (λ k. count_of c.self.inside.counts q + k) (times_in_texts c.into_texts.result.items c.new.inside.names c.into_texts.ensures q ∙ ap (λ (n : Names). once n q) names)));
      some = c.count_up.ensures.some c.self.invariant.some;
      deadlines =
          stored_later (records_in c.self.inside.members.entries) (records_in c.add.new.members.entries) c.self.inside.earliest c.earlier-self-inside.result (string_bytes c.new.inside.text) c.args.record
          (record_added c.self.inside.members c.add.new.members c.self.inside.past c.forget.new.self (string_bytes c.new.inside.text)
          (record { id = c.new.inside.id; kept = c.args.record; mark = None }) c.add.ensures.added c.self.invariant.table
          (c.forget.ensures.past ∙ ap (without_past c.self.inside.past.past) (c.as_str.ensures.value ∙ sym c.new.invariant)) c.forget.ensures.places)
          (c.earlier-self-inside.ensures ∙ ap (min c.self.inside.earliest) c.first_deadline.ensures) c.self.invariant.deadlines;
      none_before = c.restart.ensures (records_in c.add.new.members.entries);
    }

pub returns-clause-members : goal.returns-clause-members
returns-clause-members c =
    let kept =
    record_added c.self.inside.members c.add.new.members c.self.inside.past c.forget.new.self (string_bytes c.new.inside.text)
    (record { id = c.new.inside.id; kept = c.args.record; mark = None }) c.add.ensures.added c.self.invariant.table
    (c.forget.ensures.past ∙ ap (without_past c.self.inside.past.past) (c.as_str.ensures.value ∙ sym c.new.invariant)) c.forget.ensures.places in
    let here : string_bytes c.new.inside.text ≡ c.args.new.id = c.new.invariant ∙ ap (λ (n : Newcomer). n.id) c.new.view_is in
    let stored = kept ∙ ap (λ t. finite.insert (records_in c.self.inside.members.entries) t c.args.record) here in
    let past = c.forget.ensures.past ∙ ap (without_past c.self.inside.past.past) (c.as_str.ensures.value ∙ ap (λ (n : Newcomer). n.id) c.new.view_is) in
    (λ i. record { records = stored i; past = past i }) ∙ ap (λ (s : RecordsState). with_record (members_in s) c.args.new.id c.args.record) c.self.view_is

pub returns-clause-marks : goal.returns-clause-marks
returns-clause-marks c =
    marks_added c.self.inside.members c.add.new.members c.self.inside.past c.forget.new.self (string_bytes c.new.inside.text)
    (record { id = c.new.inside.id; kept = c.args.record; mark = None }) c.add.ensures.added c.self.invariant.table
    (c.forget.ensures.past ∙ ap (without_past c.self.inside.past.past) (c.as_str.ensures.value ∙ sym c.new.invariant)) c.forget.ensures.places
    (entry_absent c.self.inside.members (string_bytes c.new.inside.text)
    (ap (finite.get (records_in c.self.inside.members.entries)) (c.new.invariant ∙ ap (λ (n : Newcomer). n.id) c.new.view_is) ∙ ap (λ (s : RecordsState). finite.get s.records c.args.new.id) c.self.view_is ∙ c.requires.absent)) refl
    ∙ ap (λ (s : RecordsState). s.marks) c.self.view_is
