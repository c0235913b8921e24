use Rattle.std.proofs.lemmas.Result.{err_from_is_err_and}
use Rattle.replica_snapshots.proofs.ReadingLaws.{names_start, name_goes_on, name_fails, names_done}
use Rattle.replica_snapshots.proofs.cursor.Cursor.each_name.Goals as goal

pub loop-init : goal.loop-init
loop-init c = names_start _ _ _ c.new-names.ensures

pub returns-in_err-name : goal.returns-in_err-name
returns-in_err-name c =
    let p = err_from_is_err_and c.from_residual.result c.from_residual.ensures.1 in
    rw (p.1, p.2) (λ other. name_fails _ _ _ _ _ c.loop-test.true (c.in_err-name.ensures.exact other) c.loop.invariant)

pub loop-preserved : goal.loop-preserved
loop-preserved c = rw c.in_ok-insert.ensures.added (name_goes_on _ _ _ _ _ _ _ c.loop-test.true c.in_ok-name.ensures.exact c.loop.invariant)

pub returns : goal.returns
returns c = names_done _ _ _ _ _ c.loop-test.false c.loop.invariant
