use Rattle.std.proofs.Common.{◌≡◌, Err, rules}
use Rattle.scenario_text.proofs.Running.{EndEnds-by_write}
use Rattle.scenario_text.proofs.driver.finish.Goals as goal

pub returns-in_err-write : goal.returns-in_err-write
returns-in_err-write g c =
    let e : c.from_residual.result ≡ Err c.in_err-write.field-0.0 = search rules in
    rw e (EndEnds-by_write g.L.LineWorker.closes c.args.worker.now c.args.output.now c.end-ended.new.output (g.W.Write.contents c.args.writer.now)
    (g.W.Write.contents c.write.new.writer) c.end-ended.result c.write.result c.in_err-write.field-0.0 c.end-ended.ensures.printed c.end-ended.ensures.err
    c.in_err-write.was c.in_err-write.ensures.failed c.write.ensures.part)
