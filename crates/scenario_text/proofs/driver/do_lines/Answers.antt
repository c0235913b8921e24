use Rattle.std.proofs.Common.{[], unwrap_or}
use Rattle.scenario_text.specs.Lines.{lines_of}
use Rattle.scenario_text.proofs.Running.{Ends-before, known_input}
use Rattle.scenario_text.proofs.driver.do_lines.Goals as goal

pub returns-in-Err-clause-ends : goal.returns-in-Err-clause-ends
returns-in-Err-clause-ends g c =
    let known = g.R.Read.remaining c.args.reader.now in
    record {
      input = unwrap_or known [];
      is_input = known_input known;
      ends = Ends-before g.L.LineWorker.does g.L.LineWorker.takes g.L.LineWorker.closes (lines_of (unwrap_or known [])) c.args.worker.now (g.W.Write.contents c.args.writer.now) c.in-Err.fault c.in-Err.ensures.failed;
    }
