use Rattle.std.proofs.Common.{◌≢◌, ℕ, List, [], Bor, All, subst, sym}
use Rattle.scenario_text.proofs.GivenWords.{given_parts, given_words, not_both}
use Rattle.scenario_text.proofs.words.words_of.Goals as goal

pub returns-then-not-are_given-clause-refused : goal.returns-then-not-are_given-clause-refused
returns-then-not-are_given-clause-refused c = λ _ is_line.
    let Given : List (Bor (List ℕ)) → Type 0 = λ parts. All (λ (part : Bor (List ℕ)). part.now ≢ []) parts in
    let given = given_words c.args.line.now _ _ c.in_ok-words.ensures c.in-Ok.ensures.cases.0 is_line.words in
    let yes = c.are_given.ensures.1 (subst Given (sym c.as_slice.ensures.value) given) in
    not_both c.are_given.result yes c.if-not-are_given.true

pub returns-clause-accepted : goal.returns-clause-accepted
returns-clause-accepted c =
    let Given : List (Bor (List ℕ)) → Type 0 = λ parts. All (λ (part : Bor (List ℕ)). part.now ≢ []) parts in
    let given = subst Given c.as_slice.ensures.value (c.are_given.ensures.0 c.if-not-are_given.false) in
    record {
      text = c.in-Ok.ensures.cases.1;
      words = given_parts c.args.line.now _ _ c.in_ok-words.ensures c.in-Ok.ensures.cases.0 given;
    }
