use Rattle.std.proofs.lemmas.Result.{err_from_is_err_and}
use Rattle.replica_snapshots.specs.Reading.{partition_at}
use Rattle.replica_snapshots.proofs.ReadingLaws.{at_start, goes_on, fails, is_done}
use Rattle.replica_snapshots.proofs.cursor.Cursor.each_partition.Goals as goal

pub loop-init : goal.loop-init
loop-init c = at_start partition_at _ _ _ c.new-parts.ensures.items

pub returns-in_err-p : goal.returns-in_err-p
returns-in_err-p c =
    let p = err_from_is_err_and c.from_residual.result c.from_residual.ensures.1 in
    rw (p.1, p.2) (λ other. fails partition_at _ _ _ _ _ c.loop-test.true (c.in_err-p.ensures other) c.loop.invariant)

pub loop-preserved : goal.loop-preserved
loop-preserved c =
    rw c.in_ok-push.ensures.items (goes_on partition_at _ _ _ _ _ _ _ c.loop-test.true c.in_ok-p.ensures c.loop.invariant)

pub returns : goal.returns
returns c = is_done partition_at _ _ _ _ _ c.loop-test.false c.loop.invariant
