use Rattle.group_core.proofs.SomeStep.{has_an_answer}
use Rattle.group_core.proofs.laws.heartbeats_have_an_answer.Goals as goal

pub returns : goal.returns
returns c = has_an_answer
