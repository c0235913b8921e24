use Rattle.coord_c.proofs.embedded.Embedded.answer.Goals as goal

-- what closes at once isn't replied to
pub returns-in-Ok-Replied-clause-at_once : goal.returns-in-Ok-Replied-clause-at_once
returns-in-Ok-Replied-clause-at_once c = λ own once.
    let closes = c.in-Ok-Replied.ensures.at_once once in let is = c.in-Ok-Replied.is in cc
