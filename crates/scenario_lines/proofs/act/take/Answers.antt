use Rattle.scenario_lines.proofs.Asked.{on_err, no_take}
use Rattle.scenario_text.proofs.TopicWords.{texts}
use Rattle.scenario_lines.proofs.act.take.Goals as goal

pub returns-in_err-number-clause-refused : goal.returns-in_err-number-clause-refused
returns-in_err-number-clause-refused c =
    on_err c.from_residual.result _ (λ deed spelled.
    no_take c.args.cast.now (texts c.args.arguments.now) deed c.in_err-number.ensures.refused spelled)
