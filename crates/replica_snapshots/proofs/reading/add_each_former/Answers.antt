use Rattle.std.proofs.lemmas.Result.{err_from_is_err_and}
use Rattle.replica_snapshots.specs.Building.{CanAddFormer, with_former}
use Rattle.replica_snapshots.specs.Spelling.{FitsFormer, former_fields}
use Rattle.replica_snapshots.specs.Views.{unread}
use Rattle.replica_snapshots.proofs.Adding.{each_added, each_stopped, none_added, one_added}
use Rattle.replica_snapshots.proofs.reading.add_each_former.Goals as goal

pub loop-init : goal.loop-init
loop-init c = none_added FitsFormer former_fields CanAddFormer with_former c.args.count c.args.group.now (unread c.args.cursor.now)

pub returns-in_err-add_former : goal.returns-in_err-add_former
returns-in_err-add_former c =
    let p = err_from_is_err_and c.from_residual.result c.from_residual.ensures.1 in
    each_stopped FitsFormer former_fields CanAddFormer with_former _ _ c.from_residual.result _ _ c.loop-test.true c.loop.invariant c.in_err-add_former.ensures p.1 p.2

pub loop-preserved : goal.loop-preserved
loop-preserved c = one_added FitsFormer former_fields CanAddFormer with_former c.loop-test.true c.loop.invariant c.in_ok-add_former.ensures

pub returns : goal.returns
returns c = each_added FitsFormer former_fields CanAddFormer with_former c.loop-test.false c.loop.invariant
