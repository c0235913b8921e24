use Rattle.std.proofs.Common.{◌∙◌, sym, refl}
use Rattle.scenario_text.proofs.CutLines.{lines_of-fed, lines_of-last}
use Rattle.scenario_text.proofs.lines.first_line.Goals as goal

pub returns-in-Some : goal.returns-in-Some
returns-in-Some c = lines_of-fed c.args.input.now _ c.in-Some.end (sym c.line_feed_in.ensures ∙ c.in-Some.is) refl

pub returns-in-None : goal.returns-in-None
returns-in-None c = lines_of-last c.args.input.now c.requires (sym c.line_feed_in.ensures ∙ c.in-None.is)
