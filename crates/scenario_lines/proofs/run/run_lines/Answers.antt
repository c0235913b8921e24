use Rattle.std.proofs.Common.{subst}
use Rattle.scenario_lines.specs.Plays.{Play, DoesScriptLine, IsScriptLine, PrintsStandings}
use Rattle.scenario_text.specs.Runs.{RunsScript}
use Rattle.scenario_lines.proofs.run.run_lines.Goals as goal

pub returns : goal.returns
returns g c =
    subst
    (λ (first : Play). RunsScript DoesScriptLine IsScriptLine PrintsStandings first c.args.telling (g.R.Read.remaining c.args.reader.now)
    (g.W.Write.contents c.args.writer.now, g.W.Write.contents c.run.new.writer) (g.E.Write.contents c.args.faults.now, g.E.Write.contents c.run.new.faults) c.run.result)
    c.new-player.ensures c.run.ensures
