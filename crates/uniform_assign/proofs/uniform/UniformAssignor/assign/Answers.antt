use Rattle.std.proofs.Common.{sym, subst}
use Rattle.std.specs.Bool.{OnTrue}
use Rattle.group_types.specs.Owners.{IsLawful}
use Rattle.group_types.specs.Uniform.{IsEven, IsUniform}
use Rattle.uniform_assign.proofs.Soundness.{lawful_and_even_owners_stay, uniform_is_even, uniform_is_lawful}
use Rattle.uniform_assign.proofs.Staying.{IsUniform-stay, if_ok_also}
use Rattle.uniform_assign.proofs.uniform.UniformAssignor.assign.Goals as goal

pub returns-clause-lawful : goal.returns-clause-lawful
returns-clause-lawful c = if_ok_also c.assigned.result (uniform_is_lawful c.args.view.now c.args.subs.now c.args.former.now) c.assigned.ensures

pub returns-clause-even : goal.returns-clause-even
returns-clause-even c = if_ok_also c.assigned.result (uniform_is_even c.args.view.now c.args.subs.now c.args.former.now) c.assigned.ensures

pub returns-clause-stays : goal.returns-clause-stays
returns-clause-stays c = λ lawful even.
    if_ok_also c.assigned.result (λ spread. lawful_and_even_owners_stay c.args.view.now c.args.subs.now c.args.former.now spread lawful even) c.assigned.ensures

pub returns-then-branch-clause-uniform : goal.returns-then-branch-clause-uniform
returns-then-branch-clause-uniform c =
    let view = c.args.view.now in
    let subs = c.args.subs.now in
    let former = c.args.former.now in
    let lawful = subst (λ b. OnTrue b (IsLawful view subs former)) c.if-branch.true c.in_ok-stay.ensures.lawful in
    let even = subst (λ b. OnTrue b (IsEven view subs former)) c.if-branch.true c.in_ok-stay.ensures.even in
    if_ok_also c.copy.result (λ spread same. subst (IsUniform view subs former) (sym same) (IsUniform-stay view subs former lawful even)) c.copy.ensures
