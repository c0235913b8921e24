use Rattle.group_core.proofs.OneStep.{same_heartbeat_step}
use Rattle.group_core.proofs.laws.heartbeats_have_one_answer.Goals as goal

pub returns : goal.returns
returns c = same_heartbeat_step
