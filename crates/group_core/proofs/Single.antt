-- A map of one entry, and the map of none.
use Rattle.std.proofs.Common.{◌≡◌, Bool, true, false, cond, List, [], ◌∷◌, length, refl, sym, ap, ◌∙◌, arith, Option, Some, None}
use Rattle.std.specs.declared.cmp.Ordering.{Ordering}
use Rattle.std.specs.Ordering.{eq_by_cmp}
use Rattle.std.specs.Cmp.{IsTotalOrder, eq_by_cmp_equiv}
use Rattle.std.specs.FinMap as finite
use Rattle.std.specs.FinMap.{FinMap, IsAntisymmetric, put}

no_entry : {A : Type 0} (es : List A) → length es ≡ 0 → es ≡ []
no_entry [] none = refl
no_entry (e ∷ es) none = absurd (omega arith)

pub entries-empty : {K : Type 0} (R : K → K → Ordering) (X : Type 0) → finite.entries (finite.empty {X = X} {R = R}) ≡ []
entries-empty R X = no_entry _ (sym (finite.len-entries finite.empty) ∙ finite.len-empty R X)

first_or : {X : Type 0} (b : Bool) (x : Option X) (y : Option X) → b ≡ true → cond b x y ≡ x
first_or true x y is = refl
first_or false x y is = absurd (cc)

twice : {X : Type 0} (b : Bool) (x y z : Option X) → cond b x (cond b y z) ≡ cond b x z
twice true x y z = refl
twice false x y z = refl

module _ {K X : Type 0} {R : K → K → Ordering} (total : IsTotalOrder R) where
  pub entries-single : (k : K) (v : X) → finite.entries (finite.insert (finite.empty {R = R}) k v) ≡ (k, v) ∷ []
  entries-single k v = finite.entries-insert total finite.empty k v ∙ ap (put R k v) (entries-empty R X)

  pub get-inserted : (m : FinMap R X) (k : K) (v : X) → finite.get (finite.insert m k v) k ≡ Some v
  get-inserted m k v = finite.get-insert total m k v k ∙ first_or _ _ _ ((eq_by_cmp_equiv total).refl k)

  pub insert-insert : IsAntisymmetric R → (m : FinMap R X) (k : K) (v w : X) → finite.insert (finite.insert m k v) k w ≡ finite.insert m k w
  insert-insert exact m k v w =
      finite.same_map total exact _ _ (λ q. finite.get-insert total (finite.insert m k v) k w q
      ∙ ap (cond (eq_by_cmp R q k) (Some w)) (finite.get-insert total m k v q)
      ∙ twice (eq_by_cmp R q k) _ _ _
      ∙ sym (finite.get-insert total m k w q))

nothing_kept : {X : Type 0} (b : Bool) (o : Option X) → o ≡ None → cond b o None ≡ None
nothing_kept true o is = is
nothing_kept false o is = refl

module _ {K X : Type 0} {R : K → K → Ordering} (total : IsTotalOrder R) (exact : IsAntisymmetric R) where
  pub retain_keys-empty : (p : K → Bool) → finite.retain_keys (finite.empty {X = X} {R = R}) p ≡ finite.empty
  retain_keys-empty p =
      finite.same_map total exact _ _ (λ q. finite.get-retain_keys finite.empty p q (λ x tie. ap p (sym (exact q x tie)))
      ∙ nothing_kept (p q) _ (finite.get-empty R q)
      ∙ sym (finite.get-empty R q))
