-- The place of a partition's owner among the subscribers, and the runs of indexes that it makes.
use Rattle.std.proofs.Common.{◌≡◌, ℕ, zero, suc, ◌+◌, ◌-◌, ◌*◌, ◌/◌, ◌%◌, ◌<◌, ◌≤◌, ◌↔◌, true, false, cond, refl, sym, ap, subst, ◌∙◌, arith, nat_lt, ltb-true, ltb-false, inl, inr}
use Rattle.std.proofs.Math.Nat.{div-le_self, div-lt_iff_lt-mul, le-div_iff_mul-le, mul-le-mul_right}
use Rattle.std.proofs.lemmas.Bool.{cases_lt}
use Rattle.group_types.specs.Owners.{range_place}

-- the quotient is known by its bounds
quotient_is : (x k y : ℕ) → 0 < k → y * k ≤ x → x < (y + 1) * k → x / k ≡ y
quotient_is x k y some low high =
    let above : y ≤ x / k = (le-div_iff_mul-le {k = k} {x = y} {y = x} some).1 low in
    let below : x / k < y + 1 = (div-lt_iff_lt-mul {k = k} {x = x} {y = y + 1} some).1 high in
    omega arith

quotient_low : (x k y : ℕ) → 0 < k → x / k ≡ y → y * k ≤ x
quotient_low x k y some is = (le-div_iff_mul-le {k = k} {x = y} {y = x} some).0 (omega arith)

quotient_high : (x k y : ℕ) → 0 < k → x / k ≡ y → x < (y + 1) * k
quotient_high x k y some is = (div-lt_iff_lt-mul {k = k} {x = x} {y = y + 1} some).0 (omega arith)

-- the place, where q is the shorter run's length and r runs are longer by one
abbrev place : ℕ → ℕ → ℕ → ℕ
place q r i = cond (nat_lt i (r * (q + 1))) (i / (q + 1)) (r + (i - r * (q + 1)) / q)

place-longer : (q r i : ℕ) → i < r * (q + 1) → place q r i ≡ i / (q + 1)
place-longer q r i h =
    elim (nat_lt i (r * (q + 1))) as (λ b. nat_lt i (r * (q + 1)) ≡ b → cond b (i / (q + 1)) (r + (i - r * (q + 1)) / q) ≡ i / (q + 1)) [
      | true ↦ λ is. refl
      | false ↦ λ is. absurd (let far = ltb-false i (r * (q + 1)) is in omega arith)
    ] refl

place-shorter : (q r i : ℕ) → r * (q + 1) ≤ i → place q r i ≡ r + (i - r * (q + 1)) / q
place-shorter q r i h =
    elim (nat_lt i (r * (q + 1))) as (λ b. nat_lt i (r * (q + 1)) ≡ b → cond b (i / (q + 1)) (r + (i - r * (q + 1)) / q) ≡ r + (i - r * (q + 1)) / q) [
      | true ↦ λ is. absurd (let near = ltb-true i (r * (q + 1)) is in omega arith)
      | false ↦ λ is. refl
    ] refl

-- ---- the place is one of the subscribers'

place-below : (q r e i : ℕ) → 0 < e → i < (r + e) * q + r → place q r i < r + e
place-below q r e i some within =
    elim (cases_lt i (r * (q + 1))) [
      | inl near ↦
          let here = place-longer q r i near in
          let below = (div-lt_iff_lt-mul {k = q + 1} {x = i} {y = r} (omega arith)).1 near in
          omega arith
      | inr far ↦
          let here = place-shorter q r i far in
          let long : 0 < q = positive q within far in
          let below = (div-lt_iff_lt-mul {k = q} {x = i - r * (q + 1)} {y = e} long).1 (omega arith) in
          omega arith
    ]
  where
    positive : (q : ℕ) → i < (r + e) * q + r → r * (q + 1) ≤ i → 0 < q
    positive zero within far = absurd (omega arith)
    positive (suc q) within far = omega arith

-- ---- the runs

module _ (q r s i : ℕ) where
  pub longer_run : s < r → (s * (q + 1) ≤ i) × (i < s * (q + 1) + q + 1) ↔ (place q r i ≡ s)
  longer_run early = (
    λ (low, high).
        let rows = mul-le-mul_right (q + 1) (let next : s + 1 ≤ r = omega arith in next) in
        place-longer q r i (omega arith) ∙ quotient_is i (q + 1) s (omega arith) low (omega arith),
    λ is. elim (cases_lt i (r * (q + 1))) [
      | inl near ↦
          let quotient = sym (place-longer q r i near) ∙ is in
          let low = quotient_low i (q + 1) s (omega arith) quotient in
          let high = quotient_high i (q + 1) s (omega arith) quotient in
          (low, omega arith)
      | inr far ↦ let here = place-shorter q r i far in absurd (omega arith)
    ],
  )

-- the run of a place that is t past the longer ones
shorter_run : (q r t i : ℕ) → (q ≡ 0 → i < r) → ((r + t) * q + r ≤ i) × (i < (r + t) * q + r + q) ↔ (place q r i ≡ r + t)
shorter_run q r t i short = (
  λ (low, high).
      let quotient = quotient_is (i - r * (q + 1)) q t (omega arith) (omega arith) (omega arith) in
      place-shorter q r i (omega arith) ∙ ap (λ n. r + n) quotient,
  λ is. elim (cases_lt i (r * (q + 1))) [
    | inl near ↦
        let here = place-longer q r i near in
        let below = (div-lt_iff_lt-mul {k = q + 1} {x = i} {y = r} (omega arith)).1 near in
        absurd (omega arith)
    | inr far ↦
        let here = place-shorter q r i far in
        let some : 0 < q = positive q short far in
        let quotient : (i - r * (q + 1)) / q ≡ t = omega arith in
        let low = quotient_low (i - r * (q + 1)) q t some quotient in
        let high = quotient_high (i - r * (q + 1)) q t some quotient in
        (omega arith, omega arith)
  ],
)
  where
    positive : (q : ℕ) → (q ≡ 0 → i < r) → r * (q + 1) ≤ i → 0 < q
    positive zero short far = absurd (let near = short refl in omega arith)
    positive (suc q) short far = omega arith

-- ---- of n partitions and k subscribers

module _ (n k : ℕ) where
  split : (0 < k) → (n ≡ k * (n / k) + n % k) × (n % k < k)
  split some = (omega arith, omega arith)

  pub range_place-below : (i : ℕ) → 0 < k → i < n → range_place n k i < k
  range_place-below i some within =
      let e = k - n % k in
      let parts = split some in
      let total : n % k + e ≡ k = omega arith in
      let all : n ≡ (n % k + e) * (n / k) + n % k = parts.0 ∙ ap (λ m. m * (n / k) + n % k) (sym total) in
      let below = place-below (n / k) (n % k) e i (omega arith) (omega arith) in
      omega arith

  pub range_place-le : (i : ℕ) → range_place n k i ≤ i
  range_place-le i =
      elim (cases_lt i (n % k * (n / k + 1))) [
        | inl near ↦ let here = place-longer (n / k) (n % k) i near in let low = div-le_self i (n / k + 1) in omega arith
        | inr far ↦
            let here = place-shorter (n / k) (n % k) i far in
            let low = div-le_self (i - n % k * (n / k + 1)) (n / k) in
            omega arith
      ]

  pub longer_run_of : (s i : ℕ) → s < n % k → (s * (n / k + 1) ≤ i) × (i < s * (n / k + 1) + n / k + 1) ↔ (range_place n k i ≡ s)
  longer_run_of s i early = longer_run (n / k) (n % k) s i early

  pub longer_run-within : (s : ℕ) → 0 < k → s < n % k → s * (n / k + 1) + n / k + 1 ≤ n
  longer_run-within s some early =
      let parts = split some in
      let rows = mul-le-mul_right (n / k + 1) (let next : s + 1 ≤ n % k = omega arith in next) in
      let columns = mul-le-mul_right (n / k) (let fewer : n % k ≤ k = omega arith in fewer) in
      omega arith

  pub shorter_run_of : (s i : ℕ) → s < k → i < n → n % k ≤ s → (s * (n / k) + n % k ≤ i) × (i < s * (n / k) + n % k + n / k) ↔ (range_place n k i ≡ s)
  shorter_run_of s i in_k within late =
      let t = s - n % k in
      let total : n % k + t ≡ s = omega arith in
      let parts = split (omega arith) in
      subst (λ s. (s * (n / k) + n % k ≤ i) × (i < s * (n / k) + n % k + n / k) ↔ (range_place n k i ≡ s)) total
      (shorter_run (n / k) (n % k) t i (λ none. let product = ap (λ q. k * q) none in omega arith))

  pub shorter_run-within : (s : ℕ) → s < k → s * (n / k) + n % k + n / k ≤ n
  shorter_run-within s in_k =
      let parts = split (omega arith) in
      let rows = mul-le-mul_right (n / k) (let next : s + 1 ≤ k = omega arith in next) in
      omega arith
