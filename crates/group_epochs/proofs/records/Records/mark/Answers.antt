use Rattle.group_epochs.proofs.Counted.{rewritten_counted}
use Rattle.std.proofs.Common.{arith}
use Rattle.group_epochs.proofs.Earliest.{rewritten_later}
use Rattle.std.proofs.Common.{refl, sym, subst, ap, ◌∙◌}
use Rattle.std.specs.FinMap as finite
use Rattle.group_epochs.specs.Records.{RecordsState, members_in}
use Rattle.group_epochs.specs.Table.{marked_at}
use Rattle.group_epochs.specs.Deadlines.{IsSearched}
use Rattle.group_epochs.proofs.Tabled.{mark_set, member_order_stays, member_there, record_stays, table_rewritten}
use Rattle.group_epochs.proofs.records.Records.mark.Goals as goal

pub mark-requires : goal.mark-requires
mark-requires c = member_there c.self.inside.members c.args.self.now c.args.id.now (ap (λ (s : RecordsState). s.records) c.self.view_is) c.requires

pub invariant_of-self : goal.invariant_of-self
invariant_of-self c =
    record {
      table =
          table_rewritten c.self.inside.members c.mark.new.members c.self.inside.past c.args.id.now (marked_at c.args.epoch) c.mark.ensures c.self.invariant.table
          (member_there c.self.inside.members c.args.self.now c.args.id.now (ap (λ (s : RecordsState). s.records) c.self.view_is) c.requires) (λ e. refl);
      member_order =
          member_order_stays c.self.inside.members c.mark.new.members c.self.inside.past c.args.id.now (marked_at c.args.epoch) c.mark.ensures c.self.invariant.table
          (member_there c.self.inside.members c.args.self.now c.args.id.now (ap (λ (s : RecordsState). s.records) c.self.view_is) c.requires) (λ e. refl) c.self.invariant.member_order;
      counted =
          rewritten_counted c.self.inside.members c.mark.new.members c.self.inside.past c.args.id.now (marked_at c.args.epoch) c.mark.ensures c.self.invariant.table
          (member_there c.self.inside.members c.args.self.now c.args.id.now (ap (λ (s : RecordsState). s.records) c.self.view_is) c.requires) c.self.inside.counts (λ e. refl) c.self.invariant.counted;
      some = c.self.invariant.some;
      deadlines =
          rewritten_later c.self.inside.members c.mark.new.members c.self.inside.past c.args.id.now (marked_at c.args.epoch) c.mark.ensures c.self.invariant.table
          (member_there c.self.inside.members c.args.self.now c.args.id.now (ap (λ (s : RecordsState). s.records) c.self.view_is) c.requires) c.self.inside.earliest c.self.inside.earliest (omega arith) (λ e was. was) c.self.invariant.deadlines;
      none_before =
          subst (IsSearched c.self.inside.searched)
          (sym (record_stays c.self.inside.members c.mark.new.members c.self.inside.past c.args.id.now (marked_at c.args.epoch) c.mark.ensures c.self.invariant.table
          (member_there c.self.inside.members c.args.self.now c.args.id.now (ap (λ (s : RecordsState). s.records) c.self.view_is) c.requires) (λ e. refl))) c.self.invariant.none_before;
    }

pub returns-clause-members : goal.returns-clause-members
returns-clause-members c =
    let there = member_there c.self.inside.members c.args.self.now c.args.id.now (ap (λ (s : RecordsState). s.records) c.self.view_is) c.requires in
    let kept = record_stays c.self.inside.members c.mark.new.members c.self.inside.past c.args.id.now (marked_at c.args.epoch) c.mark.ensures c.self.invariant.table there (λ e. refl) in
    (λ i. record { records = kept i; past = c.self.inside.past.past }) ∙ ap members_in c.self.view_is

pub returns-clause-marks : goal.returns-clause-marks
returns-clause-marks c =
    let there = member_there c.self.inside.members c.args.self.now c.args.id.now (ap (λ (s : RecordsState). s.records) c.self.view_is) c.requires in
    mark_set c.self.inside.members c.mark.new.members c.self.inside.past c.args.id.now (marked_at c.args.epoch) c.mark.ensures c.self.invariant.table there c.args.epoch (λ e. refl) ∙ ap (λ (s : RecordsState). finite.insert s.marks c.args.id.now c.args.epoch) c.self.view_is
