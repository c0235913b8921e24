use Rattle.world_sim.proofs.OneOutcome.{one_act, one_run}
use Rattle.world_sim.proofs.laws.an_act_has_one_outcome.Goals as goal

pub returns-clause-act : goal.returns-clause-act
returns-clause-act c =
    one_act c.one_body_a_message.ensures.request c.one_request_a_body.ensures c.one_reply_a_body.ensures c.one_answer.ensures c.one_outcome_a_reply.ensures

pub returns-clause-acts : goal.returns-clause-acts
returns-clause-acts c =
    one_run c.one_body_a_message.ensures.request c.one_request_a_body.ensures c.one_reply_a_body.ensures c.one_answer.ensures c.one_outcome_a_reply.ensures
