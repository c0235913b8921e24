use Rattle.std.proofs.Common.{◌≡◌, ◌≢◌, ℕ, List, ◌∷◌, None, Some, arith}
use Rattle.std.proofs.lemmas.Str.Pattern.{strip_prefix_char}
use Rattle.scenario_text.proofs.Offsets.{no_offset, no_offset_below, no_other_offset, no_other_below}
use Rattle.scenario_text.proofs.words.offset_of.Goals as goal

pub returns-in_err-number_of-in-Some-clause-none : goal.returns-in_err-number_of-in-Some-clause-none
returns-in_err-number_of-in-Some-clause-none c =
    let parts : c.args.word.now ≡ 45 ∷ c.in-Some.digits.now = strip_prefix_char 45 c.args.word.now (Some c.in-Some.digits) c.in-Some.ensures.cases (omega arith) in
    rw c.from_residual.ensures (λ offset. no_offset_below c.args.word.now c.in-Some.digits.now offset parts
    (λ number small. c.in_err-number_of-in-Some.ensures.none number (omega arith)))

pub returns-in_err-number_of-in-None-clause-none : goal.returns-in_err-number_of-in-None-clause-none
returns-in_err-number_of-in-None-clause-none c =
    let plain : (rest : List ℕ) → c.args.word.now ≢ 45 ∷ rest = strip_prefix_char 45 c.args.word.now None c.in-None.ensures.cases (omega arith) in
    rw c.from_residual-in_err-number_of-in-None.ensures (λ offset. no_offset c.args.word.now offset plain
    (λ number small. c.in_err-number_of-in-None.ensures.none number (omega arith)))

pub returns-in_ok-number_of-in-Some-clause-none : goal.returns-in_ok-number_of-in-Some-clause-none
returns-in_ok-number_of-in-Some-clause-none c =
    let parts : c.args.word.now ≡ 45 ∷ c.in-Some.digits.now = strip_prefix_char 45 c.args.word.now (Some c.in-Some.digits) c.in-Some.ensures.cases (omega arith) in
    no_other_below c.args.word.now c.in-Some.digits.now c.in_ok-number_of-in-Some.field-0 c.below_nought.result _ parts
    c.in_ok-number_of-in-Some.ensures.some.0 c.in_ok-number_of-in-Some.ensures.some.1 c.below_nought.ensures

pub returns-in_ok-number_of-in-None-clause-none : goal.returns-in_ok-number_of-in-None-clause-none
returns-in_ok-number_of-in-None-clause-none c =
    let plain : (rest : List ℕ) → c.args.word.now ≢ 45 ∷ rest = strip_prefix_char 45 c.args.word.now None c.in-None.ensures.cases (omega arith) in
    no_other_offset c.args.word.now c.in_ok-number_of-in-None.field-0 c.try_from.result c.ok.result
    c.in_ok-number_of-in-None.ensures.some.0 c.in_ok-number_of-in-None.ensures.some.1 c.try_from.ensures c.ok.ensures.value plain
