use Rattle.std.proofs.Common.{subst}
use Rattle.std.specs.Bool.{OnTrue}
use Rattle.std.specs.Result.{IfOk}
use Rattle.group_types.specs.Owners.{IsLawful}
use Rattle.group_types.specs.Uniform.{IsEven}
use Rattle.uniform_assign.proofs.Staying.{true_if_ok}
use Rattle.uniform_assign.proofs.stay.stay.Goals as goal

pub returns-clause-lawful : goal.returns-clause-lawful
returns-clause-lawful c =
    subst (λ subs. IfOk c.are_lawful.result (λ stay. OnTrue stay (IsLawful c.args.view.now subs c.args.former.now))) c.members-members.ensures.all c.are_lawful.ensures

pub returns-clause-even : goal.returns-clause-even
returns-clause-even c =
    true_if_ok c.are_lawful.result (subst (λ subs. IsEven c.args.view.now subs c.args.former.now) c.members-members.ensures.all (c.if-not-are_even.ensures c.args.view.now))
