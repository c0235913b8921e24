use Rattle.std.proofs.Common.{rules, ◌≢◌, ℕ, List, [], All, Bor, codes, map, subst, sym, ap, ◌∙◌}
use Rattle.scenario_text.specs.Words.{IsName}
use Rattle.scenario_lines.proofs.Described.{named_parts, no_named_parts}
use Rattle.scenario_text.proofs.GivenWords.{not_both}
use Rattle.scenario_lines.proofs.settings.names_of.Goals as goal

pub returns-then-not-are_names-clause-refused : goal.returns-then-not-are_names-clause-refused
returns-then-not-are_names-clause-refused c = λ bad names spelled.
    let Named : List (Bor (List ℕ)) → Type 0 = λ parts. All (λ (part : Bor (List ℕ)). IsName part.now × (part.now ≢ [])) parts in
    let plain : c.args.word.now ≢ codes "-" = search rules in
    no_named_parts c.args.word.now c.in_ok-parts.parts.items names plain c.in_ok-parts.ensures
    (λ given. not_both c.are_names.result (c.are_names.ensures.1 (subst Named (sym c.as_slice.ensures.value) given)) c.if-not-are_names.true)
    spelled

pub returns-clause-names : goal.returns-clause-names
returns-clause-names c =
    let Named : List (Bor (List ℕ)) → Type 0 = λ parts. All (λ (part : Bor (List ℕ)). IsName part.now × (part.now ≢ [])) parts in
    named_parts c.args.word.now c.in_ok-parts.parts.items _ c.in_ok-parts.ensures
    (c.in_ok-names.ensures ∙ ap (map (λ (part : Bor (List ℕ)). part.now)) c.as_slice-2.ensures.value)
    (subst Named c.as_slice.ensures.value (c.are_names.ensures.0 c.if-not-are_names.false))
