use Rattle.std.proofs.Common.{◌∙◌}
use Rattle.group_core.specs.Restoring.{with_past}
use Rattle.group_core.proofs.RestoringSteps.{past_added, past_may, past_unchanged, restoring_after, value_of, with_records}
use Rattle.group_core.proofs.restoring.Restoring.restore_past.Goals as goal

pub invariant_of-self : goal.invariant_of-self
invariant_of-self c =
    let s = c.self.inside.state in
    let new = c.restore_past.new.self in
    let r = c.restore_past.result in
    record {
      restoring = restoring_after r (value_of s) (value_of (with_records s new)) (with_past (value_of s) c.args.id c.args.stamp) c.self.invariant.restoring
          (past_added s new c.args.id c.args.stamp r c.restore_past.ensures.records c.restore_past.ensures.past)
          (past_unchanged s new r c.restore_past.ensures.records c.restore_past.ensures.err)
          (past_may s new c.args.id c.args.stamp r c.self.invariant.restoring c.restore_past.ensures.can);
      unmarked = c.restore_past.ensures.marks ∙ c.self.invariant.unmarked;
    }
