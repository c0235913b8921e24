-- The entries of a map of texts: each is found under its key.
use Rattle.std.proofs.Common.{◌≡◌, ◌≢◌, Bool, true, false, cond, ◌&&◌, List, [], ◌∷◌, Option, Some, None, refl, sym, ap, subst, ◌∙◌}
use Rattle.std.specs.List.{AllByRecursion}
use Rattle.std.specs.Ordering.{eq_by_cmp, is_lt}
use Rattle.std.specs.FinMap as finite
use Rattle.std.specs.FinMap.Entries.{below_all, find, is_sorted}
use lib.Dec.{T}
use Rattle.group_types.specs.Text.{Text, text_cmp}
use Rattle.group_types.proofs.Orders.{text_cmp-itself}
use Rattle.group_types.proofs.Lookups.{Tie, ties, differs, tie, text_ties, not_none}

pub first_part : (a b : Bool) → T (a && b) → T a
first_part true b h = tt
first_part false b h = absurd h

pub second_part : (a b : Bool) → T (a && b) → T b
second_part true b h = h
second_part false b h = absurd h

-- a key below another is another
pub below_differs : (k n : Text) → T (is_lt (text_cmp k n)) → n ≢ k
below_differs k n below same =
    subst (λ r. T (is_lt r)) (ap (text_cmp k) same ∙ text_cmp-itself k) below

module _ {X : Type 0} where
  -- a key below all of them is none of theirs
  nowhere : (k : Text) (es : List (Text × X)) → T (below_all text_cmp k es) → find text_cmp k es ≡ None
  nowhere k [] below = refl
  nowhere k (e ∷ es) below =
      ap (λ b. cond b (Some e.1) (find text_cmp k es)) (other (tie k e.0) (below_differs k e.0 (first_part _ _ below)))
      ∙ nowhere k es (second_part _ _ below)
    where
      other : Tie k e.0 → e.0 ≢ k → eq_by_cmp text_cmp k e.0 ≡ false
      other (ties same) apart = absurd (apart (sym same))
      other (differs _ so) apart = so

  each_found : (looked : Text → Option X) (es : List (Text × X)) → T (is_sorted text_cmp es)
      → ((q : Text) (x : X) → find text_cmp q es ≡ Some x → looked q ≡ Some x) → AllByRecursion (λ e. looked e.0 ≡ Some e.1) es
  each_found looked [] sorted there = tt
  each_found looked (e ∷ es) sorted there = (
    there e.0 e.1 (ap (λ b. cond b (Some e.1) (find text_cmp e.0 es)) (text_ties e.0)),
    each_found looked es (second_part _ _ sorted) (λ q x is. there q x (behind q x is (tie q e.0))),
  )
    where
      behind : (q : Text) (x : X) → find text_cmp q es ≡ Some x → Tie q e.0 → find text_cmp q (e ∷ es) ≡ Some x
      behind q x is (ties same) = absurd (not_none x (sym (ap (λ k. find text_cmp k es) same ∙ nowhere e.0 es (first_part _ _ sorted)) ∙ is))
      behind q x is (differs other apart) = ap (λ b. cond b (Some e.1) (find text_cmp q es)) apart ∙ is

  -- each entry of a map is found in it
  pub entries_found : (s : finite.FinMap text_cmp X) → AllByRecursion (λ e. finite.get s e.0 ≡ Some e.1) (finite.entries s)
  entries_found s = each_found (finite.get s) (finite.entries s) (finite.entries_sorted s) (λ q x is. finite.get-entries s q ∙ is)
