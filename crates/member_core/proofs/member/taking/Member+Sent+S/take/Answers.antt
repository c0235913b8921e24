use Rattle.std.proofs.Common.{◌≡◌, List, ℕ, None, true, false, sym, subst, ◌∙◌}
use Rattle.member_core.specs.Client.{Client}
use Rattle.member_core.specs.Outcomes.{IsOutcome, TellsNothing}
use Rattle.member_core.specs.Taking.{Takes, TakesIf}
use Rattle.member_core.proofs.member.taking.Member+Sent+S.take.Goals as goal

waits_on : (c : Client) (body : List ℕ) (new : Client) → c.waits ≡ true → TellsNothing c.number body → new ≡ c → Takes c body false new
waits_on c body new waits nothing is = subst (λ b. TakesIf b c body false new) (sym waits) (nothing, is)

pub returns-in-Ok-None : goal.returns-in-Ok-None
returns-in-Ok-None g c =
    let m = c.into_machine-machine.result in
    let me : m ≡ c.args.self = c.into_machine-machine.ensures.value in
    let body = c.args.body.now in
    let out : IsOutcome m body None c.take.new.self = subst (λ o. IsOutcome m body o c.take.new.self) c.in-Ok-None.field-0-is c.in-Ok-None.ensures.outcome in
    waits_on c.args.self body c.of-in-Ok-None.result c.into_machine-machine.ensures.waits
    (subst (λ (x : Client). TellsNothing x.number body) me out.0) (c.of-in-Ok-None.ensures ∙ out.1 ∙ me)
