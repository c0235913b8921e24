-- Among finitely many there is a first with a property, and one with the greatest weight, or there is none with it.
use Rattle.std.proofs.Common.{◌≡◌, ◌⊎◌, ℕ, zero, suc, ◌<◌, ◌≤◌, List, [], ◌∷◌, refl, sym, subst, arith, inl, inr, Some}
use Rattle.std.specs.List.{slice_get}
use Rattle.std.proofs.lemmas.Bool.{cases_lt}
use Rattle.std.proofs.lemmas.Option.{same_Some}

-- it holds, or it doesn't
abbrev pub Decided : Type 0 → Type 0
Decided P = P ⊎ (P → ⊥)

abbrev pub decided_both : {P Q : Type 0} → Decided P → Decided Q → Decided (P × Q)
decided_both (inl p) (inl q) = inl (p, q)
decided_both (inl p) (inr q) = inr (λ both. q both.1)
decided_both (inr p) d = inr (λ both. p both.0)

-- ---- among numbers

-- of the numbers below n, the first with the property
pub record IsEarliest (P : ℕ → Type 0) (n k : ℕ) : Type 0 where
  pub below : k < n
  pub there : P k
  pub first : (j : ℕ) → j < k → ¬ P j

pub first_below : (P : ℕ → Type 0) → ((k : ℕ) → Decided (P k)) → (n : ℕ) → ((k : ℕ) × IsEarliest P n k) ⊎ ((k : ℕ) → k < n → ¬ P k)
first_below P decide zero = inr (λ k low. absurd (omega arith))
first_below P decide (suc n) =
    elim (first_below P decide n) [
      | inl (k, is) ↦ inl (k, record { below = let low = is.below in omega arith; there = is.there; first = is.first })
      | inr none ↦ elim (decide n) [
        | inl there ↦ inl (n, record { below = omega arith; there = there; first = none })
        | inr away ↦ inr (λ k low. elim (cases_lt k n) [
          | inl below ↦ none k below
          | inr above ↦ λ there. away (subst P (let same : k ≡ n = omega arith in same) there)
        ])
      ]
    ]

-- of the numbers below n with the property, one of the greatest weight, and of several such the first
pub record IsHeaviest (P : ℕ → Type 0) (weight : ℕ → ℕ) (n k : ℕ) : Type 0 where
  pub below : k < n
  pub there : P k
  pub most : (j : ℕ) → j < n → P j → weight j ≤ weight k
  pub first : (j : ℕ) → j < k → P j → weight j < weight k

module _ (P : ℕ → Type 0) (weight : ℕ → ℕ) (n : ℕ) where
  -- what holds of the numbers below n, and of n, holds below the next one
  up_to : {Q : ℕ → Type 0} → ((j : ℕ) → j < n → Q j) → Q n → (j : ℕ) → j < suc n → Q j
  up_to {Q} before here j low = elim (cases_lt j n) [
    | inl below ↦ before j below
    | inr above ↦ subst Q (let same : n ≡ j = omega arith in same) here
  ]

  with_next : Decided (P n) → (k : ℕ) → IsHeaviest P weight n k → (k : ℕ) × IsHeaviest P weight (suc n) k
  with_next (inr away) k is = (
    k,
    record {
      below = let low = is.below in omega arith;
      there = is.there;
      most = up_to {Q = λ j. P j → weight j ≤ weight k} is.most (λ there. absurd (away there));
      first = is.first;
    },
  )
  with_next (inl there) k is = elim (cases_lt (weight k) (weight n)) [
    | inl more ↦ (
      n,
      record {
        below = omega arith;
        there = there;
        most = up_to {Q = λ j. P j → weight j ≤ weight n} (λ j low at. let few = is.most j low at in omega arith) (λ at. omega arith);
        first = λ j low at. let few = is.most j low at in omega arith;
      },
    )
    | inr fewer ↦ (
      k,
      record {
        below = let low = is.below in omega arith;
        there = is.there;
        most = up_to {Q = λ j. P j → weight j ≤ weight k} is.most (λ at. fewer);
        first = is.first;
      },
    )
  ]

  with_first : Decided (P n) → ((k : ℕ) → k < n → ¬ P k) → ((k : ℕ) × IsHeaviest P weight (suc n) k) ⊎ ((k : ℕ) → k < suc n → ¬ P k)
  with_first (inr away) none = inr (up_to {Q = λ k. ¬ P k} none away)
  with_first (inl there) none = inl (
    n,
    record {
      below = omega arith;
      there = there;
      most = up_to {Q = λ j. P j → weight j ≤ weight n} (λ j low at. absurd (none j low at)) (λ at. omega arith);
      first = λ j low at. absurd (none j low at);
    },
  )

pub heaviest_below : (P : ℕ → Type 0) → ((k : ℕ) → Decided (P k)) → (weight : ℕ → ℕ) → (n : ℕ) → ((k : ℕ) × IsHeaviest P weight n k) ⊎ ((k : ℕ) → k < n → ¬ P k)
heaviest_below P decide weight zero = inr (λ k low. absurd (omega arith))
heaviest_below P decide weight (suc n) =
    elim (heaviest_below P decide weight n) [
      | inl (k, is) ↦ inl (with_next P weight n (decide n) k is)
      | inr none ↦ with_first P weight n (decide n) none
    ]

-- ---- among the elements of a list

-- some element of the list has the property
pub record Has {X : Type 0} (xs : List X) (Q : X → Type 0) : Type 0 where
  pub place : ℕ
  pub element : X
  pub is_there : slice_get xs place ≡ Some element
  pub has : Q element

pub decided_has : {X : Type 0} (Q : X → Type 0) → ((x : X) → Decided (Q x)) → (xs : List X) → Decided (Has xs Q)
decided_has Q decide [] = inr (λ is. let there = is.is_there in cc)
decided_has {X} Q decide (x ∷ xs) =
    elim (decide x) [
      | inl here ↦ inl (record { place = 0; element = x; is_there = refl; has = here })
      | inr away ↦ elim (decided_has Q decide xs) [
        | inl later ↦ inl (record { place = suc later.place; element = later.element; is_there = later.is_there; has = later.has })
        | inr none ↦ inr (λ is. neither away none is.place is.element is.is_there is.has)
      ]
    ]
  where
    neither : ¬ Q x → ¬ Has xs Q → (k : ℕ) (y : X) → slice_get (x ∷ xs) k ≡ Some y → Q y → ⊥
    neither away none zero y is has = away (subst Q (sym (same_Some x y is)) has)
    neither away none (suc k) y is has = none (record { place = k; element = y; is_there = is; has = has })
