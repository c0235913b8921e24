use Rattle.std.proofs.Common.{◌∙◌}
use Rattle.std.proofs.lemmas.Result.{on_ok_weaker}
use Rattle.scenario_lines.proofs.Played.{stands}
use Rattle.scenario_lines.proofs.player.PlayerLineWorker.end.Goals as goal

pub returns-clause-printed : goal.returns-clause-printed
returns-clause-printed c =
    on_ok_weaker c.text.result
    (stands c.self.inside.cast c.self.inside.stage c.replace-stage.result c.args.self.now c.as_str.result.now c.args.output.now c.text.new.self
    c.self.view_is c.replace-stage.ensures.value (c.as_str.ensures ∙ c.in_ok-page.ensures))
    c.text.ensures.ok
