-- Facts on lists.
use Rattle.std.proofs.Common.{◌≡◌, ◌⊎◌, ℕ, zero, inl, inr, le_of_suc-le-suc, suc-le-suc, not-suc-le-zero, zero-lt-suc, Bool, ◌&&◌, ◌||◌, ◌==◌, suc, List, [], ◌∷◌, ◌++◌, map, length, take, drop, Option, Some, None, slice_get, refl, sym, ap, ◌∙◌}
use Rattle.std.specs.declared.cmp.Ordering.{Ordering}
use Rattle.std.specs.declared.cmp.Ordering.TheVariants.{Less}
use Rattle.std.specs.Bool.{Decides}
use Rattle.std.specs.List.{AllByRecursion, Contains, insert, list_any, remove, drop-map, take-map}
use Rattle.std.specs.List.Sorted.{IsStrictlySortedBy}
use Rattle.std.specs.Option.{option_map, unwrap_or}
use Rattle.std.specs.Ordering.{on}
use Rattle.std.specs.Cmp.Lexicographic.{pointwise}
use Rattle.std.proofs.lemmas.Bool.Decides.{Decides-eqb}
use Rattle.std.proofs.lemmas.List.{map-append}
use Rattle.std.proofs.lemmas.Option.{slice_get-map}
use Rattle.group_types.proofs.BoolLemmas.{or_group}

pub any_append : {K : Type 0} (test : K → Bool) (xs ys : List K) → list_any test (xs ++ ys) ≡ (list_any test xs || list_any test ys)
any_append test [] ys = refl
any_append test (x ∷ xs) ys = ap (λ b. test x || b) (any_append test xs ys) ∙ or_group (test x) (list_any test xs) (list_any test ys)

-- lists of different lengths differ
pub lengths_differ : {A : Type 0} (xs ys : List A) (m n : ℕ) → m ≡ length xs → n ≡ length ys → (m ≡ n → ⊥) → Decides (m == n) (xs ≡ ys)
lengths_differ xs ys m n p q differ =
    (λ so. absurd (differ ((Decides-eqb m n).0 so)), λ is. absurd (differ (p ∙ ap length is ∙ sym q)))

-- a list that rises by what f shows of its elements shows a list that rises
pub sorted-map : {A K : Type 0} (f : A → K) (R : K → K → Ordering) (xs : List A) → IsStrictlySortedBy (on f R) xs → IsStrictlySortedBy R (map f xs)
unfolding IsStrictlySortedBy
sorted-map f R [] sorted = tt
sorted-map {A} {K} f R (x ∷ xs) sorted = (below xs sorted.0, sorted-map f R xs sorted.1)
  where
    below : (ys : List A) → AllByRecursion (λ y. R (f x) (f y) ≡ Less) ys → AllByRecursion (λ k. R (f x) k ≡ Less) (map f ys)
    below [] all = tt
    below (y ∷ ys) all = (all.0, below ys all.1)

-- to compare elements by what f shows of them is to compare what f shows
pub pointwise-map : {A K : Type 0} (f : A → K) (E : K → K → Bool) (xs ys : List A) → pointwise (on f E) xs ys ≡ pointwise E (map f xs) (map f ys)
pointwise-map f E [] [] = refl
pointwise-map f E [] (y ∷ ys) = refl
pointwise-map f E (x ∷ xs) [] = refl
pointwise-map f E (x ∷ xs) (y ∷ ys) = ap (λ b. E (f x) (f y) && b) (pointwise-map f E xs ys)

pub list_any-map : {A K : Type 0} (f : A → K) (test : K → Bool) (xs : List A) → list_any test (map f xs) ≡ list_any (λ x. test (f x)) xs
list_any-map f test [] = refl
list_any-map f test (x ∷ xs) = ap (λ b. test (f x) || b) (list_any-map f test xs)

pub map-remove : {X Y : Type 0} (f : X → Y) (xs : List X) (i : ℕ) → remove (map f xs) i ≡ map f (remove xs i)
map-remove f xs i = (λ j. take-map f i xs j ++ drop-map f (suc i) xs j) ∙ sym (map-append f (take i xs) (drop (suc i) xs))

pub map-insert : {X Y : Type 0} (f : X → Y) (xs : List X) (i : ℕ) (y : X) → map f (insert xs i y) ≡ insert (map f xs) i (f y)
map-insert f xs i y = map-append f (take i xs) (y ∷ drop i xs) ∙ (λ j. sym (take-map f i xs) j ++ f y ∷ sym (drop-map f i xs) j)

-- ---- what lists contain, by recursion

abbrev pub In : {X : Type 0} → List X → X → Type 0
In [] y = ⊥
In (x ∷ xs) y = (x ≡ y) ⊎ In xs y

module _ {X : Type 0} where
  pub to_in : (xs : List X) (y : X) → Contains xs y → In xs y
  to_in [] y (k, below, is) = absurd (not-suc-le-zero below)
  to_in (x ∷ xs) y (zero, below, is) = inl is
  to_in (x ∷ xs) y (suc k, below, is) = inr (to_in xs y (k, le_of_suc-le-suc below, is))

  pub from_in : (xs : List X) (y : X) → In xs y → Contains xs y
  from_in [] y there = absurd there
  from_in (x ∷ xs) y (inl is) = (0, zero-lt-suc (length xs), is)
  from_in (x ∷ xs) y (inr there) = let rest = from_in xs y there in (suc rest.0, suc-le-suc rest.1, rest.2)

-- ---- look-ups in a mapped list

pub option_map-from : {X Y : Type 0} (f : X → Y) (o : Option X) (y : Y) → option_map f o ≡ Some y → (x : X) × (o ≡ Some x) × (f x ≡ y)
option_map-from f None y is = cc
option_map-from f (Some x) y is = (x, refl, ap (λ o. unwrap_or o (f x)) is)

pub slice_get-map_from : {X Y : Type 0} (f : X → Y) (xs : List X) (k : ℕ) (y : Y) → slice_get (map f xs) k ≡ Some y → (x : X) × (slice_get xs k ≡ Some x) × (f x ≡ y)
slice_get-map_from f xs k y is = option_map-from f (slice_get xs k) y (sym (slice_get-map f xs k) ∙ is)
