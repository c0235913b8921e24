-- The one number that a word may spell.
use Rattle.std.proofs.Common.{◌≡◌, ◌≢◌, ℕ, ℤ, pos, ◌<◌, ◌^◌, List, Option, Some, None, IfNone, Result, Ok, Err, sym, ◌∙◌, ap, decimal, arith, w32}
use Rattle.std.specs.Result.{result_ok, OkIff}
use Rattle.std.specs.Str.Parse.{ParsesUnsigned}
use Rattle.std.proofs.lemmas.Fmt.{parse-decimal, decimal_injective}
use mir.Val.{SFits}

pub parse_gives : {E : Type 0} (word : List ℕ) (parsed : Result ℕ E) (found : Option ℕ) (number : ℕ)
    → ParsesUnsigned 64 10 word parsed → found ≡ result_ok parsed → number < 2 ^ 64 → word ≡ decimal number
    → found ≡ Some number
parse_gives word parsed found number parses value fits spells =
    value ∙ ap result_ok (parse-decimal 64 number word parsed fits fits spells parses)

pub spells_none : {E : Type 0} (word : List ℕ) (parsed : Result ℕ E) (found : Option ℕ) (number : ℕ)
    → ParsesUnsigned 64 10 word parsed → found ≡ result_ok parsed → found ≡ None → number < 2 ^ 64
    → word ≡ decimal number → ⊥
spells_none word parsed found number parses value none fits spells =
    let some = parse_gives word parsed found number parses value fits spells in
    cc

pub spells_found : {E : Type 0} (word text : List ℕ) (parsed : Result ℕ E) (found : Option ℕ) (other number : ℕ)
    → ParsesUnsigned 64 10 word parsed → found ≡ result_ok parsed → found ≡ Some other → text ≡ decimal other
    → number < 2 ^ 64 → word ≡ decimal number → text ≡ word
spells_found word text parsed found other number parses value some shown fits spells =
    let same = parse_gives word parsed found number parses value fits spells in
    cc

-- a word that spells no count spells no number in its range
pub no_other_count : {E : Type 0} (word : List ℕ) (found : ℕ) (tried : Result ℤ E) (count : Option ℤ)
    → found < 2 ^ 64 → word ≡ decimal found → OkIff tried (SFits w32 (pos found)) (pos found) → count ≡ result_ok tried
    → IfNone count ((number : ℕ) → number < 2 ^ 31 → word ≢ decimal number)
no_other_count word found (Ok z) count below spells fits value = rw value tt
no_other_count word found (Err e) count below spells fits value = rw value (λ number small other.
    let same : found ≡ number = decimal_injective found number below (omega arith) (sym spells ∙ other) in
    fits (record { sfits = omega arith }))
