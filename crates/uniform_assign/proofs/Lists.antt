-- Elements of lists by their places.
use Rattle.std.proofs.Common.{◌≡◌, ◌⊎◌, ℕ, zero, suc, ◌<◌, ◌+◌, Bool, true, false, cond, List, [], ◌∷◌, ◌++◌, map, length, refl, sym, ap, ◌∙◌, arith, inl, inr, Some}
use Rattle.std.specs.List.{Contains, filter, flat_map, range_with_len, slice_get}
use Rattle.std.specs.Option.{option_map}
use Rattle.std.proofs.lemmas.List.FromFn.{get_or-range_with_len, length-range_with_len}
use Rattle.std.proofs.lemmas.Option.{get_or_from_slice_get, same_Some, slice_get-get_or, slice_get-map, slice_get_within}
pub use Rattle.group_types.proofs.ListLemmas.{option_map-from, slice_get-map_from}

pub Contains-at : {X : Type 0} (xs : List X) (k : ℕ) (x : X) → slice_get xs k ≡ Some x → Contains xs x
Contains-at xs k x is = (k, slice_get_within xs k x is, get_or_from_slice_get xs k x x is)

pub at_Contains : {X : Type 0} (xs : List X) (x : X) → Contains xs x → (k : ℕ) × (slice_get xs k ≡ Some x)
at_Contains xs x (k, within, is) = (k, slice_get-get_or xs k x within ∙ ap Some is)

pub slice_get-append_left : {X : Type 0} (xs ys : List X) (k : ℕ) (x : X) → slice_get xs k ≡ Some x → slice_get (xs ++ ys) k ≡ Some x
slice_get-append_left [] ys k x is = cc
slice_get-append_left (y ∷ xs) ys zero x is = is
slice_get-append_left (y ∷ xs) ys (suc k) x is = slice_get-append_left xs ys k x is

pub slice_get-append_right : {X : Type 0} (xs ys : List X) (k : ℕ) (x : X) → slice_get ys k ≡ Some x → (j : ℕ) × (slice_get (xs ++ ys) j ≡ Some x)
slice_get-append_right [] ys k x is = (k, is)
slice_get-append_right (y ∷ xs) ys k x is = let later = slice_get-append_right xs ys k x is in (suc later.0, later.1)

pub slice_get-append_cases : {X : Type 0} (xs ys : List X) (k : ℕ) (x : X) → slice_get (xs ++ ys) k ≡ Some x → (slice_get xs k ≡ Some x) ⊎ ((j : ℕ) × (k ≡ length xs + j) × (slice_get ys j ≡ Some x))
slice_get-append_cases [] ys k x is = inr (k, omega arith, is)
slice_get-append_cases (y ∷ xs) ys zero x is = inl is
slice_get-append_cases (y ∷ xs) ys (suc k) x is = elim (slice_get-append_cases xs ys k x is) [
  | inl here ↦ inl here
  | inr (j, at, there) ↦ inr (j, omega arith, there)
]

pub flat_map-at : {X A : Type 0} (f : X → List A) (xs : List X) (t i : ℕ) (x : X) (a : A) → slice_get xs t ≡ Some x → slice_get (f x) i ≡ Some a → (k : ℕ) × (slice_get (flat_map f xs) k ≡ Some a)
flat_map-at f [] t i x a is_x is_a = cc
flat_map-at f (y ∷ xs) zero i x a is_x is_a =
    (i, slice_get-append_left (f y) (flat_map f xs) i a (ap (λ z. slice_get (f z) i) (same_Some y x is_x) ∙ is_a))
flat_map-at f (y ∷ xs) (suc t) i x a is_x is_a =
    let later = flat_map-at f xs t i x a is_x is_a in slice_get-append_right (f y) (flat_map f xs) later.0 a later.1

pub flat_map-from : {X A : Type 0} (f : X → List A) (xs : List X) (k : ℕ) (a : A) → slice_get (flat_map f xs) k ≡ Some a
    → (t : ℕ) × (x : X) × (i : ℕ) × (slice_get xs t ≡ Some x) × (slice_get (f x) i ≡ Some a)
flat_map-from f [] k a is = cc
flat_map-from f (x ∷ xs) k a is = elim (slice_get-append_cases (f x) (flat_map f xs) k a is) [
  | inl here ↦ (0, x, k, refl, here)
  | inr (j, at, there) ↦ let later = flat_map-from f xs j a there in (suc later.0, later.1, later.2, later.3, later.4)
]

pub range-at : (n i : ℕ) → i < n → slice_get (range_with_len 0 n) i ≡ Some i
range-at n i within =
    slice_get-get_or (range_with_len 0 n) i 0 (omega (arith, length-range_with_len 0 n)) ∙ ap Some (get_or-range_with_len 0 n i 0 within ∙ (let same : 0 + i ≡ i = omega arith in same))

pub range-from : (n k i : ℕ) → slice_get (range_with_len 0 n) k ≡ Some i → (k ≡ i) × (i < n)
range-from n k i is =
    let within = slice_get_within (range_with_len 0 n) k i is in
    let long = length-range_with_len 0 n in
    let low : k < n = omega arith in
    let same = same_Some k i (sym (range-at n k low) ∙ is) in
    (same, omega arith)

pub filter-at : {X : Type 0} (p : X → Bool) (xs : List X) (k : ℕ) (x : X) → slice_get xs k ≡ Some x → p x ≡ true → (j : ℕ) × (slice_get (filter p xs) j ≡ Some x)
filter-at p [] k x is there = cc
filter-at p (y ∷ xs) zero x is there =
    (0, ap (λ b. slice_get (cond b (y ∷ filter p xs) (filter p xs)) 0) (ap p (same_Some y x is) ∙ there) ∙ is)
filter-at p (y ∷ xs) (suc k) x is there =
    let later = filter-at p xs k x is there in
    elim (p y) as (λ b. (j : ℕ) × (slice_get (cond b (y ∷ filter p xs) (filter p xs)) j ≡ Some x)) [
      | true ↦ (suc later.0, later.1)
      | false ↦ later
    ]

pub slice_get-map_at : {X Y : Type 0} (f : X → Y) (xs : List X) (k : ℕ) (x : X) → slice_get xs k ≡ Some x → slice_get (map f xs) k ≡ Some (f x)
slice_get-map_at f xs k x is = slice_get-map f xs k ∙ ap (option_map f) is

pub some_at : {X : Type 0} (xs : List X) (k : ℕ) → k < length xs → (x : X) × (slice_get xs k ≡ Some x)
some_at [] k within = absurd (omega arith)
some_at (x ∷ xs) zero within = (x, refl)
some_at (x ∷ xs) (suc k) within = some_at xs k (omega arith)

-- what was pushed is at the end
pub pushed_at : {X : Type 0} (xs : List X) (x : X) → slice_get (xs ++ x ∷ []) (length xs) ≡ Some x
pushed_at [] x = refl
pushed_at (y ∷ xs) x = pushed_at xs x

pub filter-from : {X : Type 0} (p : X → Bool) (xs : List X) (j : ℕ) (x : X) → slice_get (filter p xs) j ≡ Some x → (k : ℕ) × (slice_get xs k ≡ Some x)
filter-from p [] j x is = cc
filter-from {X} p (y ∷ xs) j x is = elim (p y) as (λ b. slice_get (cond b (y ∷ filter p xs) (filter p xs)) j ≡ Some x → (k : ℕ) × (slice_get (y ∷ xs) k ≡ Some x)) [
  | true ↦ here (λ i. filter-from p xs i x) j
  | false ↦ λ there. let later = filter-from p xs j x there in (suc later.0, later.1)
] is
  where
    here : ((i : ℕ) → slice_get (filter p xs) i ≡ Some x → (k : ℕ) × (slice_get xs k ≡ Some x)) → (j : ℕ) → slice_get (y ∷ filter p xs) j ≡ Some x → (k : ℕ) × (slice_get (y ∷ xs) k ≡ Some x)
    here before zero same = (0, same)
    here before (suc i) there = let later = before i there in (suc later.0, later.1)

-- no element stands in the list twice
abbrev pub AreOnce : {X : Type 0} → List X → Type 0
AreOnce {X} xs = (i j : ℕ) (x : X) → slice_get xs i ≡ Some x → slice_get xs j ≡ Some x → i ≡ j

AreOnce-tail : {X : Type 0} (y : X) (xs : List X) → AreOnce (y ∷ xs) → AreOnce xs
AreOnce-tail y xs once i j x one other = let same = once (suc i) (suc j) x one other in omega arith

AreOnce-cons : {X : Type 0} (p : X → Bool) (y : X) (xs : List X) → AreOnce (y ∷ xs) → AreOnce (filter p xs) → AreOnce (y ∷ filter p xs)
AreOnce-cons p y xs once later zero zero x one other = refl
AreOnce-cons p y xs once later zero (suc j) x one other = let (k, is) = filter-from p xs j x other in let same = once 0 (suc k) x one is in absurd (omega arith)
AreOnce-cons p y xs once later (suc i) zero x one other = let (k, is) = filter-from p xs i x one in let same = once (suc k) 0 x is other in absurd (omega arith)
AreOnce-cons p y xs once later (suc i) (suc j) x one other = ap suc (later i j x one other)

pub AreOnce-filter : {X : Type 0} (p : X → Bool) (xs : List X) → AreOnce xs → AreOnce (filter p xs)
AreOnce-filter p [] once i j x is_i is_j = cc
AreOnce-filter {X} p (y ∷ xs) once i j x is_i is_j =
    let later : AreOnce (filter p xs) = AreOnce-filter p xs (AreOnce-tail y xs once) in
    elim (p y) as (λ b. slice_get (cond b (y ∷ filter p xs) (filter p xs)) i ≡ Some x → slice_get (cond b (y ∷ filter p xs) (filter p xs)) j ≡ Some x → i ≡ j) [
      | true ↦ AreOnce-cons p y xs once later i j x
      | false ↦ later i j x
    ] is_i is_j
