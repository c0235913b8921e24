use Rattle.std.proofs.Common.{rules}
use Rattle.group_core.proofs.Responses.{of_refusal}
use Rattle.group_core.proofs.taking.refuse.Goals as goal

pub returns-clause-response : goal.returns-clause-response
returns-clause-response c = λ g image. of_refusal _ g image _ (search rules) c.args.code c.requires (search rules)
