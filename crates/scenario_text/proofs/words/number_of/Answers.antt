use Rattle.std.proofs.Common.{◌≡◌, rules}
use Rattle.scenario_text.proofs.Numbers.{spells_none, spells_found}
use Rattle.scenario_text.proofs.words.number_of.Goals as goal

pub returns-in_err-number-clause-none : goal.returns-in_err-number-clause-none
returns-in_err-number-clause-none c =
    rw c.from_residual.ensures (λ number fits spells.
    spells_none _ _ _ number c.parse.ensures.value.0 c.ok.ensures.value c.in_err-number.was fits spells)

pub returns-else-eq-clause-none : goal.returns-else-eq-clause-none
returns-else-eq-clause-none c = λ number fits spells.
    let same : c.format.result.now ≡ c.args.word.now =
    spells_found _ _ _ _ _ number c.parse.ensures.value.0 c.ok.ensures.value c.in_ok-number.was c.format.ensures.text fits spells in
    search rules
