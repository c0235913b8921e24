use Rattle.std.proofs.Common.{◌≡◌, ◌<◌, ◌^◌, decimal, sym, ◌∙◌, arith}
use Rattle.std.proofs.lemmas.Fmt.{decimal_injective}
use Rattle.scenario_text.proofs.TopicWords.{found_is}
use Rattle.scenario_lines.proofs.settings.timeout_of.Goals as goal

pub returns-then-timeout-clause-refused : goal.returns-then-timeout-clause-refused
returns-then-timeout-clause-refused c = λ timeout spells.
    let number = c.in_ok-timeout.timeout in
    let found = found_is c.number_of.result _ number (λ n. (n < 2 ^ 64) × (c.args.word.now ≡ decimal n)) c.in_ok-timeout.ensures.value c.number_of.ensures.some in
    let same : number ≡ timeout = decimal_injective number timeout found.0 (omega (arith, spells.below)) (sym found.1 ∙ spells.spelled) in
    omega (arith, spells.below)
