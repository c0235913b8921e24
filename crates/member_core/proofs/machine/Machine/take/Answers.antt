use Rattle.std.proofs.Common.{ℕ, ap, subst, refl, MatchOption}
use Rattle.member_core.specs.Client.{Client}
use Rattle.member_core.specs.Outcomes.{TellsNothing, IsReport}
use Rattle.member_core.proofs.machine.Machine.take.Goals as goal

pub returns-in_default-clause-outcome : goal.returns-in_default-clause-outcome
returns-in_default-clause-outcome c =
    let body = c.args.body.now in
    let n = c.self.inside.number in
    let told : TellsNothing n body = subst (λ o. MatchOption o (TellsNothing n body) (λ r. IsReport n body r)) c.in_default.is c.in_ok-report.ensures in
    (subst (λ (m : ℕ). TellsNothing m body) (ap (λ (x : Client). x.number) c.self.view_is) told, refl)
