use Rattle.std.proofs.Common.{is_some, arith, refl, sym, ap, ◌∙◌, true≢false}
use Rattle.std.specs.FinMap as finite
use Rattle.group_types.specs.Checks.{is_late}
use Rattle.group_types.specs.Group.{Record}
use Rattle.group_epochs.specs.Records.{IsMarkedBeat, RecordsState, beaten}
use Rattle.group_epochs.specs.Table.{records_in, with_beat}
use Rattle.group_epochs.proofs.Counted.{rewritten_counted}
use Rattle.group_epochs.proofs.Earliest.{rewritten_later, beaten_later}
use Rattle.group_epochs.proofs.Rows.{get-marks_in, get-records_in, kept_in, mark_in}
use Rattle.group_epochs.proofs.Tabled.{kept_of_found, mark_stays, member_order_stays, member_there, record_rewritten, table_rewritten, the_some}
use Rattle.group_epochs.proofs.records.Records.beat_marked.Goals as goal

pub returns-then-not-beat_marked-clause-marked : goal.returns-then-not-beat_marked-clause-marked
returns-then-not-beat_marked-clause-marked c = (
  λ never. absurd (true≢false (sym never)),
  λ (beat : IsMarkedBeat c.args.self.now c.args.id.now c.args.epoch c.args.stamp).
      let members = c.self.inside.members in
      let id = c.args.id.now in
      let was = the_some _ (member_there members c.args.self.now id (ap (λ (s : RecordsState). s.records) c.self.view_is) (ap is_some beat.is_kept)) in
      let kept = kept_of_found members id was.0 beat.kept was.1 (ap (λ (s : RecordsState). finite.get s.records id) c.self.view_is ∙ beat.is_kept) in
      let mark = ap mark_in (sym was.1) ∙ sym (get-marks_in members.entries id) ∙ ap (λ (s : RecordsState). finite.get s.marks id) c.self.view_is ∙ beat.marked in
      (c.if-not-beat_marked.ensures.marked was.0 was.1).1 (mark, ap (λ (r : Record). is_late c.args.stamp r.stamp) kept ∙ beat.later),
)

pub invariant_of-self-2 : goal.invariant_of-self-2
invariant_of-self-2 c =
    let m = c.self.inside.members in
    let n = c.beat_marked.new.members in
    let past = c.self.inside.past in
    let id = c.args.id.now in
    let change = with_beat c.args.stamp c.args.now in
    let rewrites = c.if-not-beat_marked.ensures.yes refl in
    let there = c.if-not-beat_marked.ensures.there refl in
    let was = c.self.invariant in
    record {
      table = table_rewritten m n past id change rewrites was.table there (λ e. refl);
      member_order = member_order_stays m n past id change rewrites was.table there (λ e. refl) was.member_order;
      counted = rewritten_counted m n past id change rewrites was.table there c.self.inside.counts (λ e. refl) was.counted;
      some = was.some;
      deadlines =
          rewritten_later m n past id change rewrites was.table there c.self.inside.earliest c.earlier-self-inside.result (omega (arith, c.earlier-self-inside.ensures))
          (λ e before. beaten_later e.kept c.args.stamp c.args.now c.earlier-self-inside.result (omega (arith, c.earlier-self-inside.ensures, before)) (omega (arith, c.earlier-self-inside.ensures, c.plus.ensures)))
          was.deadlines;
      none_before = c.restart.ensures (records_in n.entries);
    }

pub returns-clause-marked : goal.returns-clause-marked
returns-clause-marked c =
    let members = c.self.inside.members in
    let id = c.args.id.now in
    let was = the_some _ (c.if-not-beat_marked.ensures.there refl) in
    let found = (c.if-not-beat_marked.ensures.marked was.0 was.1).0 refl in (
      λ _. record {
        kept = was.0.kept;
        is_kept = sym (ap (λ (s : RecordsState). finite.get s.records id) c.self.view_is) ∙ get-records_in members.entries id ∙ ap kept_in was.1;
        marked = sym (ap (λ (s : RecordsState). finite.get s.marks id) c.self.view_is) ∙ get-marks_in members.entries id ∙ ap mark_in was.1 ∙ found.0;
        later = found.1;
      },
      λ _. refl,
    )

pub returns-clause-records : goal.returns-clause-records
returns-clause-records c = λ r _ is.
    let m = c.self.inside.members in
    let id = c.args.id.now in
    let found = ap (λ (s : RecordsState). finite.get s.records id) c.self.view_is ∙ is in
    record_rewritten m c.beat_marked.new.members c.self.inside.past id (with_beat c.args.stamp c.args.now) (c.if-not-beat_marked.ensures.yes refl) c.self.invariant.table (c.if-not-beat_marked.ensures.there refl)
    (beaten r c.args.stamp c.args.now) (λ e at. ap (λ r. beaten r c.args.stamp c.args.now) (kept_of_found m id e r at found))
    ∙ ap (λ (s : RecordsState). finite.insert s.records id (beaten r c.args.stamp c.args.now)) c.self.view_is

pub returns-clause-marks : goal.returns-clause-marks
returns-clause-marks c =
    mark_stays c.self.inside.members c.beat_marked.new.members c.self.inside.past c.args.id.now (with_beat c.args.stamp c.args.now) (c.if-not-beat_marked.ensures.yes refl) c.self.invariant.table (c.if-not-beat_marked.ensures.there refl) (λ e. refl)
    ∙ ap (λ (s : RecordsState). s.marks) c.self.view_is
