use Rattle.std.proofs.Common.{refl}
use Rattle.group_types.specs.HeartbeatStep.{Replied}
use Rattle.group_types.proofs.Answering.{refusal_changes_nothing}
use Rattle.group_types.proofs.laws.refusals_change_nothing.Goals as goal

pub returns : goal.returns
returns c = λ g a reply new step fails. refusal_changes_nothing g a (Replied reply) new step reply refl fails
