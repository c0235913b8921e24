use Rattle.std.proofs.Common.{rules, ◌≡◌, ◌∷◌, Err, subst}
use Rattle.member_core.specs.Views.{settings_value}
use Rattle.scenario_text.specs.declared.fault.LineFault.TheVariants.{BadLine}
use Rattle.scenario_text.specs.Words.{IsName}
use Rattle.scenario_lines.specs.Scripts.{number_in}
use Rattle.scenario_lines.specs.Plays.{Entrance}
use Rattle.scenario_text.proofs.TopicWords.{texts}
use Rattle.scenario_lines.proofs.Played.{enters, no_settings}
use Rattle.scenario_lines.proofs.player.Player.enter.Goals as goal

pub returns-in_err-settings-clause-refused : goal.returns-in_err-settings-clause-refused
returns-in_err-settings-clause-refused c = λ bad e.
    let is_bad : c.settings_of.result ≡ Err BadLine = search rules in
    let are : texts c.args.arguments.now ≡ c.in-Some.name.now.now ∷ texts c.in-Some.arguments.now = search rules in
    no_settings c.in-Some.name.now.now (texts c.in-Some.arguments.now) c.args.self.now (c.settings_of.ensures.refused is_bad)
    (subst (λ words. Entrance words c.args.self.now) are e)

pub returns-clause-done : goal.returns-clause-done
returns-clause-done c =
    let are : texts c.args.arguments.now ≡ c.in-Some.name.now.now ∷ texts c.in-Some.arguments.now = search rules in
    let is_name : IsName c.in-Some.name.now.now = search rules in
    let is_new : number_in c.self.inside.cast c.in-Some.name.now.now ≡ 0 = search rules in
    enters c.self.inside.cast c.add.new.self c.self.inside.stage c.enlist.new.stage c.args.self.now (texts c.args.arguments.now) (texts c.in-Some.arguments.now)
    c.in-Some.name.now.now (settings_value c.in_ok-settings.settings) c.self.view_is are is_name is_new c.in_ok-settings.ensures.settings
    c.in_ok-enlist.ensures.early.0 c.in_ok-enlist.ensures.early.1 c.in_ok-enlist.ensures.world c.in_ok-add.ensures
