-- An input that was read up to a limit.
use Rattle.std.proofs.Common.{◌≡◌, ℕ, ◌<◌, ◌≤◌, List, [], ◌++◌, length, take, Option, Some, None, IfSome, arith, ◌∙◌, ap, min}
use Rattle.std.specs.Option.{option_map}
use Rattle.std.proofs.lemmas.List.{length-take, take_all}

-- what is below the limit is all that there was
pub whole_below_limit : (known : Option (List ℕ)) (limit : ℕ) (old input : List ℕ)
    → IfSome (option_map (take limit) known) (λ bytes. input ≡ old ++ bytes) → old ≡ [] → length input < limit
    → IfSome known (λ bytes. input ≡ bytes)
whole_below_limit None limit old input read empty below = tt
whole_below_limit (Some bytes) limit old input read empty below =
    let taken : input ≡ take limit bytes = read ∙ ap (λ l. l ++ take limit bytes) empty in
    let count : length input ≡ min limit (length bytes) = ap length taken ∙ length-take limit bytes in
    let fits : length bytes ≤ limit = omega arith in
    taken ∙ take_all limit bytes fits

-- what is longer than a bound below the limit was longer than the bound
pub long_at_limit : (known : Option (List ℕ)) (limit bound : ℕ) (old input : List ℕ)
    → IfSome (option_map (take limit) known) (λ bytes. input ≡ old ++ bytes) → old ≡ [] → bound < length input
    → IfSome known (λ bytes. bound < length bytes)
long_at_limit None limit bound old input read empty above = tt
long_at_limit (Some bytes) limit bound old input read empty above =
    let taken : input ≡ take limit bytes = read ∙ ap (λ l. l ++ take limit bytes) empty in
    let count : length input ≡ min limit (length bytes) = ap length taken ∙ length-take limit bytes in
    omega arith
