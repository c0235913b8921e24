use Rattle.group_epochs.proofs.Counted.{rewritten_counted}
use Rattle.std.proofs.Common.{arith}
use Rattle.group_epochs.proofs.Earliest.{rewritten_later}
use Rattle.group_types.specs.Leave.{away}
use Rattle.std.proofs.Common.{refl, ap, ◌∙◌}
use Rattle.std.specs.FinMap as finite
use Rattle.group_epochs.specs.Records.{RecordsState}
use Rattle.group_epochs.specs.Table.{records_in, with_away}
use Rattle.group_epochs.proofs.Tabled.{kept_of_found, mark_cleared, member_order_stays, member_there, record_rewritten, table_rewritten}
use Rattle.group_epochs.proofs.records.Records.away.Goals as goal

pub go_away-requires : goal.go_away-requires
go_away-requires c = member_there c.self.inside.members c.args.self.now c.args.id.now (ap (λ (s : RecordsState). s.records) c.self.view_is) c.requires

pub invariant_of-self : goal.invariant_of-self
invariant_of-self c =
    record {
      table =
          table_rewritten c.self.inside.members c.go_away.new.members c.self.inside.past c.args.id.now (with_away c.args.stamp c.args.now) c.go_away.ensures c.self.invariant.table
          (member_there c.self.inside.members c.args.self.now c.args.id.now (ap (λ (s : RecordsState). s.records) c.self.view_is) c.requires) (λ e. refl);
      member_order =
          member_order_stays c.self.inside.members c.go_away.new.members c.self.inside.past c.args.id.now (with_away c.args.stamp c.args.now) c.go_away.ensures c.self.invariant.table
          (member_there c.self.inside.members c.args.self.now c.args.id.now (ap (λ (s : RecordsState). s.records) c.self.view_is) c.requires) (λ e. refl) c.self.invariant.member_order;
      counted =
          rewritten_counted c.self.inside.members c.go_away.new.members c.self.inside.past c.args.id.now (with_away c.args.stamp c.args.now) c.go_away.ensures c.self.invariant.table
          (member_there c.self.inside.members c.args.self.now c.args.id.now (ap (λ (s : RecordsState). s.records) c.self.view_is) c.requires) c.self.inside.counts (λ e. refl) c.self.invariant.counted;
      some = c.self.invariant.some;
      deadlines =
          rewritten_later c.self.inside.members c.go_away.new.members c.self.inside.past c.args.id.now (with_away c.args.stamp c.args.now) c.go_away.ensures c.self.invariant.table
          (member_there c.self.inside.members c.args.self.now c.args.id.now (ap (λ (s : RecordsState). s.records) c.self.view_is) c.requires) c.self.inside.earliest c.earlier-self-inside.result (omega (arith, c.earlier-self-inside.ensures)) (λ e _. omega (arith, c.earlier-self-inside.ensures, c.plus.ensures)) c.self.invariant.deadlines;
      none_before = c.restart.ensures (records_in c.go_away.new.members.entries);
    }

pub returns-clause-records : goal.returns-clause-records
returns-clause-records c = λ r is.
    let there = member_there c.self.inside.members c.args.self.now c.args.id.now (ap (λ (s : RecordsState). s.records) c.self.view_is) c.requires in
    let found = ap (λ (s : RecordsState). finite.get s.records c.args.id.now) c.self.view_is ∙ is in
    record_rewritten c.self.inside.members c.go_away.new.members c.self.inside.past c.args.id.now (with_away c.args.stamp c.args.now) c.go_away.ensures c.self.invariant.table there
    (away r c.args.stamp c.args.now) (λ e at. ap (λ r. away r c.args.stamp c.args.now) (kept_of_found c.self.inside.members c.args.id.now e r at found))
    ∙ ap (λ (s : RecordsState). finite.insert s.records c.args.id.now (away r c.args.stamp c.args.now)) c.self.view_is

pub returns-clause-marks : goal.returns-clause-marks
returns-clause-marks c =
    let there = member_there c.self.inside.members c.args.self.now c.args.id.now (ap (λ (s : RecordsState). s.records) c.self.view_is) c.requires in
    mark_cleared c.self.inside.members c.go_away.new.members c.self.inside.past c.args.id.now (with_away c.args.stamp c.args.now) c.go_away.ensures c.self.invariant.table there (λ e. refl) ∙ ap (λ (s : RecordsState). finite.remove s.marks c.args.id.now) c.self.view_is
