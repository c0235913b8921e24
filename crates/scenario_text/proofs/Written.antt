-- What a writer took of a piece of the bytes.
use Rattle.std.proofs.Common.{◌≡◌, ℕ, ◌≤◌, List, [], ◌++◌, length, take, drop, Option, sym, ◌∙◌, ap, subst, append_assoc, take-append-drop}
use Rattle.std.proofs.lemmas.List.{take-append-le}
use Rattle.std.specs.Io.KnownBytes.{Appends, Keeps}
use Rattle.std.proofs.KnownBytes.{Appends-nil, Appends-trans, Appends-kept}
use Rattle.scenario_text.specs.Writing.{Grows}

take-take : (n m : ℕ) (bytes : List ℕ) → n ≤ length (take m bytes) → take n (take m bytes) ≡ take n bytes
take-take n m bytes within =
    sym (take-append-le n (take m bytes) (drop m bytes) within) ∙ ap (take n) (take-append-drop m bytes)

-- n bytes more of a piece of the rest are written
pub more_written : (a b c : Option (List ℕ)) (bytes written rest left : List ℕ) (n m : ℕ)
    → Appends a b written → bytes ≡ written ++ rest → n ≤ length (take m rest) → Appends b c (take n (take m rest))
    → left ≡ drop n rest → (more : List ℕ) × Appends a c more × (bytes ≡ more ++ left)
more_written a b c bytes written rest left n m before split within now gone =
    let taken = take-take n m rest within in
    let now' : Appends b c (take n rest) = subst (Appends b c) taken now in
    let split' : bytes ≡ (written ++ take n rest) ++ drop n rest =
    split ∙ ap (λ l. written ++ l) (sym (take-append-drop n rest)) ∙ sym (append_assoc written (take n rest) (drop n rest)) in
    (written ++ take n rest, Appends-trans a b c _ _ before now', split' ∙ ap (λ l. (written ++ take n rest) ++ l) (sym gone))

-- nothing of a piece of the rest is written
pub none_written : (a b c : Option (List ℕ)) (bytes written rest left : List ℕ)
    → Appends a b written → bytes ≡ written ++ rest → Keeps b c
    → left ≡ rest → (more : List ℕ) × Appends a c more × (bytes ≡ more ++ left)
none_written a b c bytes written rest left before split kept same =
    (written, Appends-kept a b c written before kept, split ∙ ap (λ l. written ++ l) (sym same))

-- ---- only more bytes come

pub Grows-refl : (a : Option (List ℕ)) → Grows a a
Grows-refl a = record { bytes = []; appends = Appends-nil a }

pub Grows-trans : (a b c : Option (List ℕ)) → Grows a b → Grows b c → Grows a c
Grows-trans a b c one two = record { bytes = one.bytes ++ two.bytes; appends = Appends-trans a b c one.bytes two.bytes one.appends two.appends }
