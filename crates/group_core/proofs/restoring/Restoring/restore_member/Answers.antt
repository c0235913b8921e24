use Rattle.std.proofs.Common.{◌<◌, ◌∙◌, arith}
use Rattle.std.specs.FinMap as finite
use Rattle.group_types.specs.Limits.{MOST_MEMBERS}
use Rattle.group_core.specs.Restoring.{with_member}
use Rattle.group_core.proofs.RestoringSteps.{member_added, member_can, member_may, member_unchanged, restoring_after, value_of, with_records}
use Rattle.group_core.proofs.restoring.Restoring.restore_member.Goals as goal

pub invariant_of-self : goal.invariant_of-self
invariant_of-self c =
    let s = c.self.inside.state in
    let new = c.restore.new.self in
    let r = c.restore.result in
    let few : finite.len s.records.records < MOST_MEMBERS = omega (arith, c.len.ensures, c.if-len-ge-MOST_MEMBERS.false) in
    record {
      restoring = restoring_after r (value_of s) (value_of (with_records s new)) (with_member (value_of s) c.args.id.now c.args.record) c.self.invariant.restoring
          (member_added s new c.args.id.now c.args.record r c.restore.ensures.past c.restore.ensures.records)
          (member_unchanged s new r c.restore.ensures.past c.restore.ensures.err)
          (member_may s new c.args.id.now c.args.record r c.self.invariant.restoring (member_can s new c.args.id.now c.args.record r few c.restore.ensures.can));
      unmarked = c.restore.ensures.marks ∙ c.self.invariant.unmarked;
    }
