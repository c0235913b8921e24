-- What is in a pile, and the first of it.
use Rattle.std.proofs.Common.{◌≡◌, ◌==◌, ◌⊎◌, ℕ, zero, suc, ◌<◌, ◌≤◌, true, false, cond, List, [], ◌∷◌, length, get_or, slice_get, refl, sym, ap, subst, ◌∙◌, arith, inl, inr, Option, Some, None}
use Rattle.std.specs.Option.{IsSome, IfSome, option_eq}
use Rattle.std.specs.List.{Contains}
use Rattle.std.specs.List.Sorted.{IsPermutation}
use Rattle.std.specs.BinaryHeap.{IsUpperBound}
use Rattle.std.specs.Ordering.{nat_cmp, is_lt}
use Rattle.std.specs.declared.cmp.Ordering.{Ordering}
use Rattle.std.specs.declared.cmp.Ordering.TheVariants.{Less, Equal, Greater}
use Rattle.std.specs.declared.cmp.Reverse.{Reverse}
use Rattle.std.proofs.lemmas.Bool.{cases_lt}
use Rattle.std.proofs.lemmas.Bool.Decides.{Decides-eqb, Decides-ltb}
use Rattle.std.proofs.lemmas.List.{get_or_default}
use Rattle.std.proofs.lemmas.List.Elements.{All-contains, All-from_recursion}
use Rattle.std.proofs.lemmas.List.Sorted.{Contains-permutation, IsPermutation-sym}
use Rattle.std.proofs.lemmas.Option.{same_Some}
use Rattle.uniform_assign.proofs.Lists.{Contains-at, at_Contains}

-- the numbers of a list, each of which comes before the lesser ones
abbrev pub In : ℕ → List (Reverse ℕ) → Type 0
In k xs = (r : Reverse ℕ) × Contains xs r × (r.0 ≡ k)

abbrev pub falling : Reverse ℕ → Reverse ℕ → Ordering
falling x y = nat_cmp y.0 x.0

pub In-permutation : (xs ys : List (Reverse ℕ)) (k : ℕ) → IsPermutation xs ys → In k xs → In k ys
In-permutation xs ys k moved (r, is, same) = (r, Contains-permutation xs ys r moved is, same)

pub In-nil : (k : ℕ) → ¬ In k []
In-nil k (r, is, same) = let (i, there) = at_Contains [] r is in cc

pub In-cons : (x : Reverse ℕ) (xs : List (Reverse ℕ)) (k : ℕ) → In k (x ∷ xs) → (x.0 ≡ k) ⊎ In k xs
In-cons x xs k (r, is, same) = let (i, there) = at_Contains (x ∷ xs) r is in at i there
  where
    at : (i : ℕ) → slice_get (x ∷ xs) i ≡ Some r → (x.0 ≡ k) ⊎ In k xs
    at zero there = inl (ap (λ (y : Reverse ℕ). y.0) (same_Some x r there) ∙ same)
    at (suc i) there = inr (r, Contains-at xs i r there, same)

pub In-head : (x : Reverse ℕ) (xs : List (Reverse ℕ)) → In x.0 (x ∷ xs)
In-head x xs = (x, Contains-at (x ∷ xs) 0 x refl, refl)

pub In-tail : (x : Reverse ℕ) (xs : List (Reverse ℕ)) (k : ℕ) → In k xs → In k (x ∷ xs)
In-tail x xs k (r, is, same) = let (i, there) = at_Contains xs r is in (r, Contains-at (x ∷ xs) (suc i) r there, same)

not_less : (m n : ℕ) → is_lt (nat_cmp m n) ≡ false → n ≤ m
not_less m n is = elim (cases_lt m n) [
  | inl less ↦ let test = (Decides-ltb m n).1 less in let first = sym (ap (λ b. is_lt (cond b Less (cond (m == n) Equal Greater))) test) ∙ is in cc
  | inr more ↦ more
]

-- nothing in the list comes before its upper bound
pub In-first : (r : Reverse ℕ) (xs : List (Reverse ℕ)) (k : ℕ) → IsUpperBound falling r xs → In k xs → r.0 ≤ k
In-first r xs k bound (s, is, same) =
    let low = not_less s.0 r.0 (All-contains (λ y. is_lt (falling r y) ≡ false) xs s (All-from_recursion (λ y. is_lt (falling r y) ≡ false) xs bound) is) in
    omega arith

-- a number was pushed, or the first one popped
pub In-pushed : (x : Reverse ℕ) (xs ys : List (Reverse ℕ)) (k : ℕ) → IsPermutation (x ∷ xs) ys → In k ys → In k xs ⊎ (k ≡ x.0)
In-pushed x xs ys k moved is = elim (In-cons x xs k (In-permutation ys (x ∷ xs) k (IsPermutation-sym (x ∷ xs) ys moved) is)) [ inl same ↦ inr (sym same) | inr there ↦ inl there ]

pub pushed-In : (x : Reverse ℕ) (xs ys : List (Reverse ℕ)) (k : ℕ) → IsPermutation (x ∷ xs) ys → In k xs ⊎ (k ≡ x.0) → In k ys
pushed-In x xs ys k moved is = elim is [
  | inl there ↦ In-permutation (x ∷ xs) ys k moved (In-tail x xs k there)
  | inr same ↦ In-permutation (x ∷ xs) ys k moved (subst (λ n. In n (x ∷ xs)) (sym same) (In-head x xs))
]

pub In-popped : (x : Reverse ℕ) (xs ys : List (Reverse ℕ)) (k : ℕ) → IsPermutation xs (x ∷ ys) → In k ys → In k xs
In-popped x xs ys k moved is = In-permutation (x ∷ ys) xs k (IsPermutation-sym xs (x ∷ ys) moved) (In-tail x ys k is)

pub popped-In : (x : Reverse ℕ) (xs ys : List (Reverse ℕ)) (k : ℕ) → IsPermutation xs (x ∷ ys) → In k xs → (x.0 ≡ k) ⊎ In k ys
popped-In x xs ys k moved is = In-cons x ys k (In-permutation xs (x ∷ ys) k moved is)

-- what was popped was the first
pub popped : (o : Option (Reverse ℕ)) (r : Reverse ℕ) (xs ys : List (Reverse ℕ)) → IsSome o → IfSome o (λ x. IsPermutation xs (x ∷ ys)) → IfSome o (λ x. x ≡ get_or xs 0 x) → 0 < length xs → r ≡ get_or xs 0 r
    → (x : Reverse ℕ) × IsPermutation xs (x ∷ ys) × (x ≡ r)
popped None r xs ys some moved top long read = cc
popped (Some x) r xs ys some moved top long read = (x, moved, top ∙ get_or_default xs 0 x r long ∙ sym read)

-- whether an owner is the member
pub owner_is : (o : Option ℕ) (m : ℕ) → true ≡ option_eq (λ x y. x == y) o (Some m) → o ≡ Some m
owner_is None m test = cc
owner_is (Some n) m test = ap Some ((Decides-eqb n m).0 (sym test))

pub owner_is_not : (o : Option ℕ) (m : ℕ) → false ≡ option_eq (λ x y. x == y) o (Some m) → o ≡ Some m → ⊥
owner_is_not None m test same = cc
owner_is_not (Some n) m test same = let equal = (Decides-eqb n m).1 (same_Some n m same) in cc

-- the one that was popped is the first of all
pub least-popped : {H : Type 0} (o : Option (Reverse ℕ)) (xs ys : List (Reverse ℕ)) (first : ℕ) → H → IsSome o → IfSome o (λ x. IsPermutation xs (x ∷ ys)) → IfSome o (λ x. H → IsUpperBound falling x ys)
    → In first xs → ((k : ℕ) → In k xs → first ≤ k) → (x : Reverse ℕ) × IsPermutation xs (x ∷ ys) × (x.0 ≡ first)
least-popped None xs ys first heap some moved bound there least = cc
least-popped (Some x) xs ys first heap some moved bound there least =
    let low = least x.0 (In-permutation (x ∷ ys) xs x.0 (IsPermutation-sym xs (x ∷ ys) moved) (In-head x ys)) in (
      x,
      moved,
      elim (popped-In x xs ys first moved there) [
        | inl same ↦ same
        | inr behind ↦ let high = In-first x ys first (bound heap) behind in omega arith
      ],
    )
