-- The one offset that a word may spell.
use Rattle.std.proofs.Common.{◌≡◌, ◌≢◌, inl, inr, ℕ, zero, suc, ℤ, pos, ◌<◌, ◌≤◌, ◌^◌, List, ◌∷◌, get_or, Option, Some, None, IfNone, Result, Ok, Err, sym, ◌∙◌, ap, decimal, arith, w64}
use Rattle.std.specs.Prelude.{MatchOption}
use Rattle.std.specs.Result.{result_ok, OkIff}
use Rattle.std.proofs.lemmas.Fmt.{decimal_injective, decimal_digit, first_decimal}
use Rattle.scenario_text.specs.Numbers.{SpellsOffset}
use mir.Val.{SFits}

-- what is written of a number begins with no minus
no_minus : (number : ℕ) (rest : List ℕ) → number < 2 ^ 64 → decimal number ≡ 45 ∷ rest → ⊥
no_minus zero rest fits is = absurd (omega (arith, ap (λ (l : List ℕ). get_or l 0 0) (sym (decimal_digit 0 (omega arith)) ∙ is)))
no_minus (suc n) rest fits is = absurd (omega (arith, first_decimal (suc n) (omega arith) fits, ap (λ (l : List ℕ). get_or l 0 0) is))

-- a word that spells no number, and begins with no minus
pub no_offset : (word : List ℕ) (offset : ℤ) → ((rest : List ℕ) → word ≢ 45 ∷ rest) → ((number : ℕ) → number < 2 ^ 63 → word ≢ decimal number)
    → SpellsOffset word offset → ⊥
no_offset word offset plain none (inl (number, spells, is)) = none number spells.below spells.spelled
no_offset word offset plain none (inr (number, small, spelled, is)) = plain (decimal number) spelled

-- a minus, and no number behind it
pub no_offset_below : (word digits : List ℕ) (offset : ℤ) → word ≡ 45 ∷ digits → ((number : ℕ) → number ≤ 2 ^ 63 → digits ≢ decimal number)
    → SpellsOffset word offset → ⊥
no_offset_below word digits offset parts none (inl (number, spells, is)) =
    no_minus number digits (omega (arith, spells.below)) (sym spells.spelled ∙ parts)
no_offset_below word digits offset parts none (inr (number, small, spelled, is)) =
    let both : 45 ∷ digits ≡ 45 ∷ decimal number = sym parts ∙ spelled in
    none number small cc

-- a number that is no offset is the only one that its word spells
pub no_other_offset : {E : Type 0} (word : List ℕ) (found : ℕ) (tried : Result ℤ E) (offset : Option ℤ)
    → found < 2 ^ 64 → word ≡ decimal found → OkIff tried (SFits w64 (pos found)) (pos found) → offset ≡ result_ok tried
    → ((rest : List ℕ) → word ≢ 45 ∷ rest) → IfNone offset ((z : ℤ) → SpellsOffset word z → ⊥)
no_other_offset word found (Ok z) offset below spells fits value plain = rw value tt
no_other_offset word found (Err e) offset below spells fits value plain = rw value (λ z. no_offset word z plain (λ number small other.
    let same : found ≡ number = decimal_injective found number below (omega arith) (sym spells ∙ other) in
    fits (record { sfits = omega arith })))

pub no_other_below : (word digits : List ℕ) (found : ℕ) (offset : Option ℤ) (Q : ℤ → Type 0) → word ≡ 45 ∷ digits → found < 2 ^ 64 → digits ≡ decimal found
    → MatchOption offset (2 ^ 63 < found) Q → IfNone offset ((z : ℤ) → SpellsOffset word z → ⊥)
no_other_below word digits found (Some z) Q parts below spells case = tt
no_other_below word digits found None Q parts below spells case = λ z. no_offset_below word digits z parts (λ number small other.
    let same : found ≡ number = decimal_injective found number below (omega arith) (sym spells ∙ other) in
    omega arith)
