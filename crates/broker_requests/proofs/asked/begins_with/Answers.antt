use Rattle.std.proofs.Common.{◌≡◌, ◌++◌, ℤ, to_z, of_z, rules, sym, ap, ◌∙◌, refl, FitsSigned}
use Rattle.std.specs.Int.{w16}
use Rattle.flex_wire.specs.Spelling.{int16}
use Rattle.broker_requests.proofs.BodyLemmas.{is_number}
use Rattle.broker_requests.proofs.asked.begins_with.Goals as goal

pub returns-then-found-number : goal.returns-then-found-number
returns-then-found-number c = (
  λ h. absurd cc,
  λ h.
      let fits : FitsSigned w16 c.args.number = search rules in
      let is = is_number c.in-Ok.found c.args.number c.in-Ok.field-0-1.now h.0 (c.in-Ok.ensures.only c.args.number h.0 fits h.1) in
      absurd (c.if-found-number.true (ap (of_z w16) (sym is.number_is))),
)

pub returns : goal.returns
returns c =
    let found : to_z w16 (of_z w16 c.in-Ok.found) ≡ c.in-Ok.found = search rules in
    let number : to_z w16 (of_z w16 c.args.number) ≡ c.args.number = search rules in
    let same : c.in-Ok.found ≡ c.args.number = sym found ∙ (ap (to_z w16) c.if-found-number.false ∙ number) in
    (λ h. (c.in-Ok.field-0-1.now, c.in-Ok.ensures.found.1 ∙ ap (λ (z : ℤ). int16 z ++ c.in-Ok.field-0-1.now) same), λ h. refl)
