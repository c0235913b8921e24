use Rattle.std.proofs.lemmas.Result.{err_from_is_err_and}
use Rattle.replica_snapshots.specs.Building.{CanAddGrant, with_grant}
use Rattle.replica_snapshots.specs.Spelling.{FitsGrant, grant_fields}
use Rattle.replica_snapshots.specs.Views.{unread}
use Rattle.replica_snapshots.proofs.Adding.{each_added, each_stopped, none_added, one_added}
use Rattle.replica_snapshots.proofs.reading.add_each_grant.Goals as goal

pub loop-init : goal.loop-init
loop-init c = none_added FitsGrant grant_fields (CanAddGrant c.args.id.now) (with_grant c.args.id.now) c.args.count c.args.group.now (unread c.args.cursor.now)

pub returns-in_err-add_grant : goal.returns-in_err-add_grant
returns-in_err-add_grant c =
    let p = err_from_is_err_and c.from_residual.result c.from_residual.ensures.1 in
    each_stopped FitsGrant grant_fields (CanAddGrant c.args.id.now) (with_grant c.args.id.now) _ _ c.from_residual.result _ _ c.loop-test.true c.loop.invariant c.in_err-add_grant.ensures p.1 p.2

pub loop-preserved : goal.loop-preserved
loop-preserved c = one_added FitsGrant grant_fields (CanAddGrant c.args.id.now) (with_grant c.args.id.now) c.loop-test.true c.loop.invariant c.in_ok-add_grant.ensures

pub returns : goal.returns
returns c = each_added FitsGrant grant_fields (CanAddGrant c.args.id.now) (with_grant c.args.id.now) c.loop-test.false c.loop.invariant
