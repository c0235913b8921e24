use Rattle.std.proofs.Common.{rules, ◌≡◌, ◌∷◌, ◌∙◌, ap, subst}
use Rattle.scenario_text.specs.Words.{words_of}
use Rattle.scenario_text.proofs.TopicWords.{texts}
use Rattle.scenario_lines.specs.Commands.{IsCommand}
use Rattle.scenario_lines.proofs.Requested.{no_bare_request}
use Rattle.scenario_lines.proofs.interpreter.Interpreter.words_line.Goals as goal

pub returns-clause-refused : goal.returns-clause-refused
returns-clause-refused c = λ bad other is.
    let others = texts c.in-Some.arguments.now in
    let cut : words_of c.args.line.now ≡ c.in-Some.name.now.now ∷ others = search rules in
    let is_command = subst IsCommand cut is.is_command in
    c.command.ensures.refused bad
    (λ same. no_bare_request c.args.line.now others (cut ∙ ap (λ word. word ∷ others) same) other (subst (λ word. IsCommand (word ∷ others)) same is_command))
    is_command
