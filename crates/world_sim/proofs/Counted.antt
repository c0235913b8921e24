-- Different keys of a map that are as many as the map's are all of them, and all of them are as many.
use Rattle.std.proofs.Common.{◌≡◌, ◌≢◌, ℕ, zero, suc, ◌-◌, cond, List, [], ◌∷◌, length, Option, Some, None, is_some, inl, inr, refl, sym, ap, subst, ◌∙◌, arith}
use Rattle.std.specs.FinMap as finite
use Rattle.group_types.specs.Text.{Text, text_cmp}
use Rattle.group_types.proofs.Lookups.{Tie, ties, differs, tie, found_without, not_none}
use Rattle.group_types.proofs.Orders.{text_cmp_total, text_cmp-IsAntisymmetric}
use Rattle.world_sim.proofs.Lists.{In}

-- none stands twice
abbrev pub AreApart : List Text → Type 0
AreApart [] = Unit {0}
AreApart (x ∷ xs) = ¬ In xs x × AreApart xs

module _ {X : Type 0} where
  -- the map has something under the key
  abbrev pub HasKey : finite.FinMap text_cmp X → Text → Type 0
  HasKey s k = (x : X) × (finite.get s k ≡ Some x)

  none_in_empty : (s : finite.FinMap text_cmp X) → finite.len s ≡ 0 → (k : Text) → HasKey s k → ⊥
  none_in_empty s none k (x, is) = not_none x (sym (ap (λ t. finite.get t k) (finite.empty_of_len s none) ∙ finite.get-empty text_cmp k) ∙ is)

  one_less : (s : finite.FinMap text_cmp X) (k : Text) → HasKey s k → suc (finite.len (finite.remove s k)) ≡ finite.len s
  one_less s k has =
      let less : finite.len (finite.remove s k) ≡ finite.len s - 1 = finite.len-remove text_cmp_total s k ∙ ap (λ o. cond (is_some o) (finite.len s - 1) (finite.len s)) has.1 in
      by (finite.len s) refl less
    where
      by : (n : ℕ) → finite.len s ≡ n → finite.len (finite.remove s k) ≡ finite.len s - 1 → suc (finite.len (finite.remove s k)) ≡ finite.len s
      by zero none less = absurd (none_in_empty s none k has)
      by (suc n) is less = omega (arith, is, less)

  other_stays : (s : finite.FinMap text_cmp X) (k q : Text) → q ≢ k → HasKey s q → HasKey (finite.remove s k) q
  other_stays s k q other (x, is) = by (tie q k)
    where
      by : Tie q k → HasKey (finite.remove s k) q
      by (ties same) = absurd (other same)
      by (differs _ apart) = (x, finite.get-remove text_cmp_total s k q ∙ ap (λ b. cond b None (finite.get s q)) apart ∙ is)

  -- as many keys as there are are all of them
  pub all_of : (ks : List Text) (s : finite.FinMap text_cmp X) → AreApart ks → ((k : Text) → In ks k → HasKey s k) → length ks ≡ finite.len s → (k : Text) → HasKey s k → In ks k
  all_of [] s apart each same k has = absurd (none_in_empty s (sym same) k has)
  all_of (j ∷ ks) s apart each same k has = by (all_of ks (finite.remove s j) apart.1 rest (omega (arith, same, less))) (tie k j)
    where
      less : suc (finite.len (finite.remove s j)) ≡ finite.len s
      less = one_less s j (each j (inl refl))

      rest : (q : Text) → In ks q → HasKey (finite.remove s j) q
      rest q there = other_stays s j q (λ is. apart.0 (subst (In ks) is there)) (each q (inr there))

      by : ((q : Text) → HasKey (finite.remove s j) q → In ks q) → Tie k j → In (j ∷ ks) k
      by later (ties is) = inl (sym is)
      by later (differs other _) = inr (later k (other_stays s j k other has))

  -- all of them are as many as there are
  pub as_many : (ks : List Text) (s : finite.FinMap text_cmp X) → AreApart ks → ((k : Text) → In ks k → HasKey s k) → ((k : Text) → HasKey s k → In ks k) → length ks ≡ finite.len s
  as_many [] s apart each all = sym (ap finite.len empty ∙ finite.len-empty text_cmp X)
    where
      at : (q : Text) (o : Option X) → finite.get s q ≡ o → finite.get s q ≡ finite.get (finite.empty {R = text_cmp}) q
      at q None none = none ∙ sym (finite.get-empty text_cmp q)
      at q (Some x) is = absurd (all q (x, is))

      empty : s ≡ finite.empty
      empty = finite.same_map text_cmp_total text_cmp-IsAntisymmetric s finite.empty (λ q. at q (finite.get s q) refl)
  as_many (j ∷ ks) s apart each all =
      let less = one_less s j (each j (inl refl)) in
      let rest = as_many ks (finite.remove s j) apart.1 (λ q there. other_stays s j q (λ is. apart.0 (subst (In ks) is there)) (each q (inr there))) within in
      omega (arith, less, rest)
    where
      within : (q : Text) → HasKey (finite.remove s j) q → In ks q
      within q (x, is) = let was = found_without s j q x is in by was.1 (all q (x, was.0))
        where
          by : q ≢ j → In (j ∷ ks) q → In ks q
          by other (inl same) = absurd (other (sym same))
          by other (inr there) = there
