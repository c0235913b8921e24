-- The first place at which a byte stands, as a search finds it, is the list's.
use Rattle.std.proofs.Common.{◌≡◌, ℕ, nat_lt, Bool, true, false, List, length, Option, Some, None, refl, arith}
use Rattle.std.specs.List.{position, position_or_len}
use Rattle.std.proofs.lemmas.Bool.{false_from_ne_true}
use Rattle.std.proofs.lemmas.List.Sums.{position_or_len_is}
use Rattle.memchr.specs.Find.{IsFirstByte}

pub position-from_first : (test : ℕ → Bool) (bytes : List ℕ) (found : Option ℕ) → IsFirstByte test bytes found → found ≡ position test bytes
position-from_first test bytes (Some place) first =
    let at : position_or_len test bytes ≡ place =
    position_or_len_is test bytes place 0 (omega (arith, first.0.high))
    (λ k below. false_from_ne_true _ (first.0.before k (omega arith) below)) (λ _. first.1) in
    let fits : nat_lt place (length bytes) ≡ true = grind (arith, first.0.high) in
    rw (at, fits) refl
position-from_first test bytes None nowhere =
    let at : position_or_len test bytes ≡ length bytes =
    position_or_len_is test bytes (length bytes) 0 (omega arith)
    (λ k below. false_from_ne_true _ (nowhere k (omega arith) below)) (λ past. absurd (omega arith)) in
    let fits : nat_lt (length bytes) (length bytes) ≡ false = grind (arith) in
    rw (at, fits) refl
