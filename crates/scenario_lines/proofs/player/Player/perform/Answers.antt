use Rattle.world_sim.specs.Acting.{act_value}
use Rattle.scenario_lines.specs.Shows.{IsAnswerText}
use Rattle.scenario_text.specs.Runs.{Prints}
use Rattle.scenario_lines.proofs.Prints.{OnOk-by}
use Rattle.scenario_lines.proofs.Played.{performs}
use Rattle.scenario_lines.proofs.player.Player.perform.Goals as goal

pub returns-clause-printed : goal.returns-clause-printed
returns-clause-printed c =
    OnOk-by c.print_answer-printed.result _ _
    (λ (prints : Prints (IsAnswerText c.args.verb c.act-answer.new.self c.act-answer.result) c.args.output.now c.print_answer-printed.new.output).
    record {
      text = prints.text;
      is_text = performs c.self.inside.cast c.self.inside.stage c.replace-stage.result c.args.self.now c.in_ok-world.world c.act-answer.new.self c.args.verb
          (act_value c.args.act) c.act-answer.result prints.text c.self.view_is c.replace-stage.ensures.value c.in_ok-world.ensures c.act-answer.ensures.step prints.is_text;
      printed = prints.printed;
    })
    c.print_answer-printed.ensures.printed
