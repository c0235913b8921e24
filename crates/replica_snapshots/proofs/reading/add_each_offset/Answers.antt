use Rattle.std.proofs.lemmas.Result.{err_from_is_err_and}
use Rattle.replica_snapshots.specs.Building.{CanAddOffset, with_committed}
use Rattle.replica_snapshots.specs.Spelling.{FitsOffset, offset_fields}
use Rattle.replica_snapshots.specs.Views.{unread}
use Rattle.replica_snapshots.proofs.Adding.{each_added, each_stopped, none_added, one_added}
use Rattle.replica_snapshots.proofs.reading.add_each_offset.Goals as goal

pub loop-init : goal.loop-init
loop-init c = none_added FitsOffset offset_fields CanAddOffset with_committed c.args.count c.args.group.now (unread c.args.cursor.now)

pub returns-in_err-add_offset : goal.returns-in_err-add_offset
returns-in_err-add_offset c =
    let p = err_from_is_err_and c.from_residual.result c.from_residual.ensures.1 in
    each_stopped FitsOffset offset_fields CanAddOffset with_committed _ _ c.from_residual.result _ _ c.loop-test.true c.loop.invariant c.in_err-add_offset.ensures p.1 p.2

pub loop-preserved : goal.loop-preserved
loop-preserved c = one_added FitsOffset offset_fields CanAddOffset with_committed c.loop-test.true c.loop.invariant c.in_ok-add_offset.ensures

pub returns : goal.returns
returns c = each_added FitsOffset offset_fields CanAddOffset with_committed c.loop-test.false c.loop.invariant
