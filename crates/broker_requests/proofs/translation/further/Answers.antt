use Rattle.std.proofs.Common.{◌≡◌, subst, ◌∙◌}
use Rattle.topic_expressions.specs.Expressions.{IsRefused}
use Rattle.broker_requests.proofs.translation.further.Goals as goal

pub returns-clause-refused : goal.returns-clause-refused
returns-clause-refused g c = λ refused expression is.
    let some = c.in-Some.ensures ∙ is in
    let same : c.in-Some.expression.now ≡ expression = cc in
    subst IsRefused same (c.names_matched.ensures.refused refused)
