-- What lists contain, by recursion.
use Rattle.std.proofs.Common.{◌≡◌, ◌⊎◌, ℕ, zero, suc, Bool, true, false, cond, List, [], ◌∷◌, ◌++◌, drop, map, refl, sym, ap, ◌∙◌, inl, inr}
use Rattle.std.specs.List.{filter}
pub use Rattle.group_types.proofs.ListLemmas.{In, from_in, to_in}

module _ {X : Type 0} where
  pub in_append : (xs ys : List X) (y : X) → In (xs ++ ys) y → In xs y ⊎ In ys y
  in_append [] ys y there = inr there
  in_append (x ∷ xs) ys y (inl is) = inl (inl is)
  in_append (x ∷ xs) ys y (inr there) = later (in_append xs ys y there)
    where
      later : In xs y ⊎ In ys y → ((x ≡ y) ⊎ In xs y) ⊎ In ys y
      later (inl a) = inl (inr a)
      later (inr b) = inr b

  pub in_drop : (n : ℕ) (xs : List X) (y : X) → In (drop n xs) y → In xs y
  in_drop zero xs y there = there
  in_drop (suc n) [] y there = there
  in_drop (suc n) (x ∷ xs) y there = inr (in_drop n xs y there)

  pub in_filter : (test : X → Bool) (xs : List X) (y : X) → In (filter test xs) y → In xs y × (test y ≡ true)
  in_filter test [] y there = absurd there
  in_filter test (x ∷ xs) y there = by_test (in_filter test xs y) (test x) refl there
    where
      further : In xs y × (test y ≡ true) → In (x ∷ xs) y × (test y ≡ true)
      further rest = (inr rest.0, rest.1)

      by_test : (In (filter test xs) y → In xs y × (test y ≡ true)) → (b : Bool) → test x ≡ b → In (cond b (x ∷ filter test xs) (filter test xs)) y → In (x ∷ xs) y × (test y ≡ true)
      by_test rest true is (inl same) = (inl same, ap test (sym same) ∙ is)
      by_test rest true is (inr there) = further (rest there)
      by_test rest false is there = further (rest there)

pub in_map : {X Y : Type 0} (f : X → Y) (xs : List X) (y : Y) → In (map f xs) y → (x : X) × In xs x × (f x ≡ y)
in_map f [] y there = absurd there
in_map f (x ∷ xs) y (inl is) = (x, inl refl, is)
in_map f (x ∷ xs) y (inr there) = let rest = in_map f xs y there in (rest.0, inr rest.1, rest.2)
