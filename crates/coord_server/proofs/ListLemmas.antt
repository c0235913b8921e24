-- Lists that grow by one.
use Rattle.std.proofs.Common.{◌≡◌, ◌∙◌, ap, sym, List, [], ◌∷◌, ◌++◌, map}
use Rattle.std.proofs.lemmas.List.{map-append}

-- what is added has the property of what it was made of, and so has the list with it
pub one_more : {T A B : Type 0} (f : T → B) (g : A → B) (old new : List T) (yielded : List A) (x : T) (a : A)
    → new ≡ old ++ x ∷ [] → f x ≡ g a → map f old ≡ map g yielded
    → map f new ≡ map g (yielded ++ a ∷ [])
one_more f g old new yielded x a added same before =
    ap (map f) added
    ∙ map-append f old (x ∷ [])
    ∙ ap (λ ys. ys ++ f x ∷ []) before
    ∙ ap (λ y. map g yielded ++ y ∷ []) same
    ∙ sym (map-append g yielded (a ∷ []))
