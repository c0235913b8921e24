use Rattle.std.proofs.Common.{◌∙◌}
use Rattle.group_core.proofs.plan.plan_of.Goals as goal

pub returns-clause-plan : goal.returns-clause-plan
returns-clause-plan c =
    record {
      id = c.in_ok-id.ensures.id ∙ c.as_str.ensures.value ∙ c.told_id.ensures;
      assignment = c.in_ok-said.ensures.said.0;
      sent = c.in_ok-said.ensures.said.1;
      few = c.in_ok-said.ensures.few;
      successor = c.in_ok-successor.ensures;
    }
