use Rattle.std.proofs.Common.{◌∙◌}
use Rattle.link_futures.proofs.TurnLemmas.{closes_same, AnswersOn_one, AnswersOn_nothing}
use Rattle.link_futures.proofs.line.Line.answer.Goals as goal

pub returns-clause-ok : goal.returns-clause-ok
returns-clause-ok g c =
    let at = c.in-Some.ensures in
    AnswersOn_one _ c.args.self.now _ _ c.in-Some.len c.in_ok-answered.answered _ _ c.body.result.now _ at.front at.room at.still_open c.body.ensures c.in_ok-answered.ensures.answers c.drop_frame.ensures (c.eq-self.ensures ∙ closes_same c.in_ok-answered.answered)

pub returns-in_default-clause-ok : goal.returns-in_default-clause-ok
returns-in_default-clause-ok g c = AnswersOn_nothing _ c.args.self.now c.args.desk.now
