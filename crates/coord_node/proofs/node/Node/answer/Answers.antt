use Rattle.std.proofs.Common.{subst}
use Rattle.coord_node.specs.Steps.{IsRequest}
use Rattle.coord_node.proofs.node.Node.answer.Goals as goal

-- what closes at once takes no memory
pub returns-clause-at_once : goal.returns-clause-at_once
returns-clause-at_once c = λ once.
    c.answer_parsed.ensures.no_request (λ v is. (c.of.ensures.at_once once).1 v (subst (IsRequest v) c.in_ok-parsed.ensures.bytes is))
