use Rattle.scenario_lines.proofs.Asked.{on_err, no_lose}
use Rattle.scenario_text.proofs.TopicWords.{texts}
use Rattle.scenario_lines.proofs.act.lose.Goals as goal

pub returns-in_err-client-clause-refused : goal.returns-in_err-client-clause-refused
returns-in_err-client-clause-refused c =
    on_err c.from_residual.result _ (λ deed spelled.
    no_lose c.args.cast.now (texts c.args.arguments.now) deed c.in_err-client.ensures.refused spelled)
