use Rattle.std.proofs.lemmas.Result.{err_from_is_err_and}
use Rattle.range_assign.specs.Shares.{shares_in}
use Rattle.replica_snapshots.specs.Building.{CanAddMember, with_part}
use Rattle.replica_snapshots.specs.Spelling.{FitsMember, member_fields}
use Rattle.replica_snapshots.specs.Views.{unread}
use Rattle.replica_snapshots.proofs.Adding.{each_added, each_stopped, none_added, one_added}
use Rattle.replica_snapshots.proofs.reading.add_each_member.Goals as goal

pub loop-init : goal.loop-init
loop-init c = none_added FitsMember member_fields CanAddMember with_part c.args.count (c.args.group.now, shares_in c.args.shares.now.items) (unread c.args.cursor.now)

pub returns-in_err-add_member : goal.returns-in_err-add_member
returns-in_err-add_member c =
    let p = err_from_is_err_and c.from_residual.result c.from_residual.ensures.1 in
    each_stopped FitsMember member_fields CanAddMember with_part _ _ c.from_residual.result _ _ c.loop-test.true c.loop.invariant c.in_err-add_member.ensures p.1 p.2

pub loop-preserved : goal.loop-preserved
loop-preserved c = one_added FitsMember member_fields CanAddMember with_part c.loop-test.true c.loop.invariant c.in_ok-add_member.ensures

pub returns : goal.returns
returns c = each_added FitsMember member_fields CanAddMember with_part c.loop-test.false c.loop.invariant
