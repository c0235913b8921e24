-- A size that is written over the four bytes that were left for it.
use Rattle.std.proofs.Common.{◌≡◌, ℕ, ◌+◌, ◌-◌, ℤ, pos, List, [], ◌++◌, length, take, drop, ap, sym, ◌∙◌, refl, arith, append_assoc, append-nil, length-append}
use Rattle.std.proofs.lemmas.List.{drop_all, drop_at, take_all, take_at}
use Rattle.flex_wire.specs.Spelling.{int32, signed}

pub length-int32 : (z : ℤ) → length (int32 z) ≡ 4
unfolding signed
length-int32 z = refl

-- four bytes of the items from the start on, with the size in their place
abbrev pub patched : List ℕ → List ℕ → ℕ → List ℕ
patched items size start = take start items ++ (size ++ drop (start + 4 - start) (drop start items))

pub patched_is : (old zeros body size items : List ℕ) (start n : ℕ) → items ≡ (old ++ zeros) ++ body → start ≡ length old → length zeros ≡ 4 → length size ≡ 4
    → n ≡ length items → take n (patched items size start ++ drop (length (patched items size start)) items) ≡ old ++ (size ++ body)
patched_is old zeros body size items start n is at four also_four all =
    let whole : items ≡ old ++ (zeros ++ body) = is ∙ append_assoc old zeros body in
    let front : take start items ≡ old = ap (take start) whole ∙ take_at old (zeros ++ body) start (sym at) in
    let rest : drop start items ≡ zeros ++ body = ap (drop start) whole ∙ drop_at old (zeros ++ body) start (sym at) in
    let after : drop (start + 4 - start) (drop start items) ≡ body = ap (drop (start + 4 - start)) rest ∙ drop_at zeros body (start + 4 - start) (omega arith) in
    let middle : patched items size start ≡ old ++ (size ++ body) = (λ i. front i ++ (size ++ after i)) in
    let count : length items ≡ length (old ++ (size ++ body)) =
    omega (arith, ap length whole, length-append old (zeros ++ body), length-append zeros body, length-append old (size ++ body), length-append size body) in
    let none : drop (length (old ++ (size ++ body))) items ≡ [] = drop_all (length (old ++ (size ++ body))) items (omega arith) in
    ap (λ (m : List ℕ). take n (m ++ drop (length m) items)) middle
    ∙ ap (λ (m : List ℕ). take n ((old ++ (size ++ body)) ++ m)) none
    ∙ ap (take n) (append-nil (old ++ (size ++ body)))
    ∙ take_all n (old ++ (size ++ body)) (omega arith)

-- what was written after the size's bytes, and how long all is
pub after_size : (old items all body : List ℕ) → items ≡ old ++ int32 (pos 0) → all ≡ items ++ body
    → (all ≡ (old ++ int32 (pos 0)) ++ body) × (length all ≡ length old + 4 + length body)
after_size old items all body zeros is =
    let whole : all ≡ (old ++ int32 (pos 0)) ++ body = is ∙ ap (λ (xs : List ℕ). xs ++ body) zeros in (
      whole,
      omega (arith, ap length whole, length-append (old ++ int32 (pos 0)) body, length-append old (int32 (pos 0)), length-int32 (pos 0)),
    )
