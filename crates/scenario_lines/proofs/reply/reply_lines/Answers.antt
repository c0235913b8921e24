use Rattle.std.proofs.Common.{subst}
use Rattle.scenario_lines.specs.declared.interpreter.Interpreter.{Interpreter}
use Rattle.scenario_lines.specs.Commands.{DoesReplyLine, IsReplyLine}
use Rattle.scenario_text.specs.Runs.{RunsLines}
use Rattle.scenario_lines.proofs.reply.reply_lines.Goals as goal

pub returns : goal.returns
returns g c =
    subst
    (λ (first : Interpreter). RunsLines DoesReplyLine IsReplyLine first c.args.telling (g.R.Read.remaining c.args.reader.now)
    (g.W.Write.contents c.args.writer.now, g.W.Write.contents c.run.new.writer) (g.E.Write.contents c.args.faults.now, g.E.Write.contents c.run.new.faults) c.run.result)
    c.new-replier.ensures c.run.ensures
