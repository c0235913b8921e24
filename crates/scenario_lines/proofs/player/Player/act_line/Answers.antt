use Rattle.std.proofs.Common.{rules, ◌≡◌, Err, sym, subst}
use Rattle.world_sim.specs.Acting.{act_value}
use Rattle.scenario_text.specs.declared.fault.LineFault.TheVariants.{BadLine}
use Rattle.scenario_lines.specs.Plays.{MayStand, Performs}
use Rattle.scenario_text.specs.Runs.{Prints}
use Rattle.scenario_lines.specs.Stages.{world_at, has_begun}
use Rattle.scenario_text.proofs.TopicWords.{texts}
use Rattle.scenario_lines.proofs.Played.{play, may_act, does_act}
use Rattle.scenario_lines.proofs.Prints.{OnOk-by}
use Rattle.scenario_lines.proofs.player.Player.act_line.Goals as goal

pub returns-in_err-act-clause-refused : goal.returns-in_err-act-clause-refused
returns-in_err-act-clause-refused c = λ bad may.
    let is_bad : c.act_of.result ≡ Err BadLine = search rules in
    let old = play c.self.inside.cast (world_at c.self.inside.stage) (has_begun c.self.inside.stage) in
    let words = texts c.args.arguments.now in
    let asked = may_act c.args.verb words old c.requires (subst (MayStand c.args.verb words) (sym c.self.view_is) may) in
    c.act_of.ensures.refused is_bad asked.0 asked.1

pub returns-clause-printed : goal.returns-clause-printed
returns-clause-printed c =
    OnOk-by c.perform.result _ _
    (λ (prints : Prints (Performs c.args.verb (act_value c.in_ok-act.act) c.args.self.now c.perform.new.self) c.args.output.now c.perform.new.output).
    record {
      text = prints.text;
      is_text = does_act c.self.inside.cast c.self.inside.stage c.args.self.now c.perform.new.self c.args.verb (texts c.args.arguments.now)
          (act_value c.in_ok-act.act) prints.text c.self.view_is c.requires c.in_ok-act.ensures.asked prints.is_text;
      printed = prints.printed;
    })
    c.perform.ensures.printed
