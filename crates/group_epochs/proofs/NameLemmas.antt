-- The set of the names of a list, one after the other.
use Rattle.std.proofs.Common.{◌≡◌, ℕ, ◌+◌, ◌<◌, Bool, true, false, ◌||◌, refl, List, [], ◌∷◌, ◌++◌, map, take, length, get_or, sym, ap, ◌∙◌}
use Rattle.std.proofs.lemmas.List.{take_more, map-append}
use Rattle.std.proofs.lemmas.List.Folds.{list_any-append}
use Rattle.std.specs.List.{list_any}
use Rattle.std.specs.Ordering.{eq_by_cmp}
use Rattle.group_types.specs.Text.{Text, text_cmp}
use Rattle.group_types.specs.Sets.{with_one, of_list}
use Rattle.group_types.specs.Topics.{Names}
use Rattle.group_types.proofs.Orders.{text_cmp_total, text_cmp-IsAntisymmetric}
use Rattle.group_types.proofs.SetLemmas.{has-of_list, has-with_one, same_set}

or_last : (a b : Bool) → (a || (b || false)) ≡ (b || a)
or_last true true = refl
or_last true false = refl
or_last false true = refl
or_last false false = refl

-- one more name at the end
of_list-push : (ks : List Text) (x : Text) → of_list {R = text_cmp} (ks ++ x ∷ []) ≡ with_one (of_list ks) x
of_list-push ks x =
    same_set text_cmp_total text_cmp-IsAntisymmetric _ _ (λ q.
    has-of_list text_cmp_total (ks ++ x ∷ []) q
    ∙ list_any-append (eq_by_cmp text_cmp q) ks (x ∷ [])
    ∙ or_last (list_any (eq_by_cmp text_cmp q) ks) (eq_by_cmp text_cmp q x)
    ∙ ap (λ b. eq_by_cmp text_cmp q x || b) (sym (has-of_list text_cmp_total ks q))
    ∙ sym (has-with_one text_cmp_total (of_list ks) x q))

pub of_list-next : {X : Type 0} (f : X → Text) (xs : List X) (i : ℕ) (x : X) (names : Names) → i < length xs
    → names ≡ of_list (map f (take i xs)) → with_one names (f (get_or xs i x)) ≡ of_list (map f (take (i + 1) xs))
of_list-next f xs i x names here is =
    ap (λ (s : Names). with_one s (f (get_or xs i x))) is
    ∙ sym (of_list-push (map f (take i xs)) (f (get_or xs i x)))
    ∙ ap (λ ns. of_list ns) (sym (map-append f (take i xs) (get_or xs i x ∷ [])) ∙ ap (map f) (sym (take_more xs i x here)))
