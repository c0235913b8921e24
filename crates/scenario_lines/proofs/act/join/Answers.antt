use Rattle.scenario_lines.proofs.Asked.{on_err, no_join}
use Rattle.scenario_text.proofs.TopicWords.{texts}
use Rattle.scenario_lines.proofs.act.join.Goals as goal

pub returns-in_err-client-clause-refused : goal.returns-in_err-client-clause-refused
returns-in_err-client-clause-refused c =
    on_err c.from_residual.result _ (λ deed spelled.
    no_join c.args.cast.now (texts c.args.arguments.now) deed c.in_err-client.ensures.refused spelled)
