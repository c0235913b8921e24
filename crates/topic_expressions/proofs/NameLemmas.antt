-- Names that are looked at one after the other.
use Rattle.std.proofs.Common.{◌≡◌, ◌+◌, ◌<◌, ℕ, Bool, true, false, cond, List, [], ◌∷◌, ◌++◌, length, take, get_or, Bor, sym, ap, ◌∙◌, append-nil}
use Rattle.std.proofs.lemmas.List.{map_push}
use Rattle.std.proofs.lemmas.List.Elements.{filter-append}
use Rattle.std.proofs.lemmas.Grind.{take_at_read}
use Rattle.regex.specs.Patterns.{Re}
use Rattle.topic_expressions.specs.Expressions.{texts, matched, is_matched}

more : (re : Re) (names : List (Bor (List ℕ))) (i : ℕ) (d : Bor (List ℕ)) (b : Bool) → i < length names → is_matched re (get_or names i d).now ≡ b
    → matched re (texts (take (i + 1) names)) ≡ matched re (texts (take i names)) ++ cond b ((get_or names i d).now ∷ []) []
more re names i d b lt is =
    let name = get_or names i d in
    let taken : texts (take (i + 1) names) ≡ texts (take i names) ++ name.now ∷ [] = ap texts (take_at_read names i d lt).1 ∙ map_push _ (take i names) name in
    ap (matched re) taken ∙ (filter-append (is_matched re) (texts (take i names)) (name.now ∷ [])
    ∙ ap (λ (h : Bool). matched re (texts (take i names)) ++ cond h (name.now ∷ []) []) is)

-- a name that is matched comes after those that were
pub one_more : (re p : Re) (b : Bool) (names found new : List (Bor (List ℕ))) (i : ℕ) (d : Bor (List ℕ)) → i < length names → texts found ≡ matched re (texts (take i names))
    → p ≡ re → b ≡ is_matched p (get_or names i d).now → b ≡ true → new ≡ found ++ get_or names i d ∷ [] → texts new ≡ matched re (texts (take (i + 1) names))
one_more re p b names found new i d lt so_far same tested passed pushed =
    let name = get_or names i d in
    let is : is_matched re name.now ≡ true = ap (λ (q : Re). is_matched q name.now) (sym same) ∙ (sym tested ∙ passed) in
    ap texts pushed ∙ (map_push _ found name ∙ (ap (λ (l : List (List ℕ)). l ++ name.now ∷ []) so_far ∙ sym (more re names i d true lt is)))

-- one that isn't changes nothing
pub no_more : (re p : Re) (b : Bool) (names found new : List (Bor (List ℕ))) (i : ℕ) (d : Bor (List ℕ)) → i < length names → texts found ≡ matched re (texts (take i names))
    → p ≡ re → b ≡ is_matched p (get_or names i d).now → b ≡ false → new ≡ found → texts new ≡ matched re (texts (take (i + 1) names))
no_more re p b names found new i d lt so_far same tested failed kept =
    let name = get_or names i d in
    let is : is_matched re name.now ≡ false = ap (λ (q : Re). is_matched q name.now) (sym same) ∙ (sym tested ∙ failed) in
    ap texts kept ∙ (so_far ∙ (sym (append-nil (matched re (texts (take i names)))) ∙ sym (more re names i d false lt is)))
