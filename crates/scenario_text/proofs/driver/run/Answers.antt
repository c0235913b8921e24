use Rattle.std.proofs.Common.{sym, subst}
use Rattle.scenario_text.specs.declared.command_line.Telling.{Telling}
use Rattle.scenario_text.specs.Runs.{RunsScript}
use Rattle.scenario_text.proofs.Running.{RunsScript-told}
use Rattle.scenario_text.proofs.driver.run.Goals as goal

pub returns : goal.returns
returns g c =
    subst
    (λ (telling : Telling). RunsScript g.L.LineWorker.does g.L.LineWorker.takes g.L.LineWorker.closes c.args.worker telling (g.R.Read.remaining c.args.reader.now)
    (g.W.Write.contents c.args.writer.now, g.W.Write.contents c.do_lines-done.new.writer) (g.E.Write.contents c.args.faults.now, g.E.Write.contents c.tell.new.faults) c.tell.result)
    (sym c.in-Reasons.is)
    (RunsScript-told g.L.LineWorker.does g.L.LineWorker.takes g.L.LineWorker.closes c.args.worker (g.R.Read.remaining c.args.reader.now)
    (g.W.Write.contents c.args.writer.now) (g.W.Write.contents c.do_lines-done.new.writer)
    (g.E.Write.contents c.args.faults.now) (g.E.Write.contents c.status_after-status.new.faults) (g.E.Write.contents c.tell.new.faults)
    c.do_lines-done.result c.status_after-status.result c.tell.result c.do_lines-done.ensures.ends c.do_lines-done.ensures.too_long
    c.status_after-status.ensures.status c.status_after-status.ensures.told c.tell.ensures.status c.tell.ensures.told)
