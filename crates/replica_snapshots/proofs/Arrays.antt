-- Bytes that are put into an array, behind others.
use Rattle.std.proofs.Common.{◌≡◌, ℕ, List, [], ◌++◌, length, drop, ap, ◌∙◌, arith}
use Rattle.std.proofs.lemmas.List.{drop_all, drop_at, take_at}
use borrow.Rule.Slice.PartMut.{put_mid}

-- bytes, and others behind them up to the array's end
pub two_parts : (front back rest : List ℕ) {a b : List ℕ} (n k : ℕ) → front ≡ a → back ≡ b → length front ≡ n → length rest ≡ k
    → put_mid n k (front ++ rest) back ≡ a ++ (b ++ [])
two_parts front back rest {a} {b} n k is_front is_back begins ends =
    ap (λ (l : List ℕ). l ++ (back ++ drop k (drop n (front ++ rest)))) (take_at front rest n begins)
    ∙ (ap (λ (l : List ℕ). front ++ (back ++ l)) (ap (drop k) (drop_at front rest n begins) ∙ drop_all k rest (omega (arith, ends)))
    ∙ (ap (λ (l : List ℕ). l ++ (back ++ [])) is_front ∙ ap (λ (l : List ℕ). a ++ (l ++ [])) is_back))
