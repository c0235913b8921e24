-- The law of the varint.
use Rattle.std.proofs.Common.{◌≡◌, ℕ, zero, suc, ◌+◌, ◌-◌, ◌*◌, ◌/◌, ◌%◌, ◌^◌, ◌<◌, ◌≤◌, true, false, not, cond, List, [], ◌∷◌, ◌++◌, Ok, refl, sym, ap, subst, ◌∙◌, arith, inl, inr}
use Rattle.std.specs.Prelude.{nat_lt, nat_le, ◌==◌}
use Rattle.std.proofs.lemmas.Bool.{cases_lt, le-ltb, lt-ltb, leb-true, le-leb}
use Rattle.flex_wire.specs.declared.fault.WireFault.TheVariants.{NotShortest, TooLong}
use Rattle.flex_wire.specs.Spelling.{varint, varint_groups, FitsVarint}
use Rattle.flex_wire.specs.Reading.{◌>>=◌, demand, groups_at, varint_at}
use Rattle.flex_wire.specs.Laws.{AreBytes, IsField}
use Rattle.flex_wire.proofs.Fields.{bind_ok, demand_ok, chosen, ok_is, positive, not_zero}

-- what a varint of this many further groups is less than
abbrev pub limit : ℕ → ℕ
limit zero = 16
limit (suc more) = 128 * limit more

limit-least : (more : ℕ) → 16 ≤ limit more
limit-least zero = omega arith
limit-least (suc more) = omega (arith, limit-least more)

-- the groups that a test of 128 chooses between
fifth_group : (n : ℕ) → varint_groups zero n ≡ n ∷ []
unfolding varint_groups
fifth_group n = refl

last_group : (more n : ℕ) → n < 128 → varint_groups (suc more) n ≡ n ∷ []
unfolding varint_groups
last_group more n lt = let t : nat_lt n 128 ≡ true = lt-ltb _ _ lt in rw t refl

higher_group : (more n : ℕ) → 128 ≤ n → varint_groups (suc more) n ≡ (n % 128 + 128) ∷ varint_groups more (n / 128)
unfolding varint_groups
higher_group more n le = let t : nat_lt n 128 ≡ false = le-ltb _ _ le in rw t refl

-- a byte that says that more follow, and the number that does
joined_group : (more byte high : ℕ) → 128 ≤ byte → byte < 256 → 0 < high → varint_groups (suc more) (byte - 128 + 128 * high) ≡ byte ∷ varint_groups more high
joined_group more byte high le lt some =
    let n = byte - 128 + 128 * high in
    let low : n % 128 + 128 ≡ byte = omega arith in
    let up : n / 128 ≡ high = omega arith in
    higher_group more n (omega arith) ∙ rw (low, up) refl

-- what a reader took from the front: a varint with this many further groups
abbrev IsTaken : ℕ → List ℕ → ℕ × List ℕ → Type 0
IsTaken more bytes p = (0 < p.0) × (p.0 < limit more) × (bytes ≡ varint_groups more p.0 ++ p.1)

groups_taken : (more : ℕ) (bytes : List ℕ) (p : ℕ × List ℕ) → AreBytes bytes → groups_at more bytes ≡ Ok p → IsTaken more bytes p
unfolding groups_at
groups_taken zero [] p are e = absurd cc
groups_taken (suc more) [] p are e = absurd cc
groups_taken zero (byte ∷ bytes) p are e =
    let a = demand_ok (nat_le byte 15) TooLong (demand (not (byte == 0)) NotShortest >>= λ _. Ok (byte, bytes)) p e in
    let b = demand_ok (not (byte == 0)) NotShortest (Ok (byte, bytes)) p a.1 in
    let fits : byte ≤ 15 = leb-true _ _ a.0 in
    subst (IsTaken zero (byte ∷ bytes)) (ok_is (byte, bytes) p b.1) (positive byte b.0, omega arith, rw fifth_group refl)
groups_taken (suc more) (byte ∷ bytes) p are e =
    let a = demand_ok (not (byte == 0)) NotShortest (cond (nat_lt byte 128) (Ok (byte, bytes)) (groups_at more bytes >>= λ high. Ok (byte - 128 + 128 * high.0, high.1))) p e in
    let c = chosen (nat_lt byte 128) (Ok (byte, bytes)) (groups_at more bytes >>= λ high. Ok (byte - 128 + 128 * high.0, high.1)) (Ok p) a.1 in
    elim (cases_lt byte 128) [
      | inl lt ↦ subst (IsTaken (suc more) (byte ∷ bytes)) (ok_is (byte, bytes) p (c.0 (lt-ltb _ _ lt))) (positive byte a.0, omega (arith, limit-least more), ap (λ (x : List ℕ). x ++ bytes) (sym (last_group more byte lt)))
      | inr le ↦
          let b = bind_ok (groups_at more bytes) (λ high. Ok (byte - 128 + 128 * high.0, high.1)) p (c.1 (le-ltb _ _ le)) in
          let high = groups_taken more bytes b.0 (λ i. are (suc i)) b.1 in
          subst (IsTaken (suc more) (byte ∷ bytes)) (ok_is (byte - 128 + 128 * b.0.0, b.0.1) p b.2) (omega arith, omega (arith, are 0), rw (joined_group more byte b.0.0 le (are 0) high.0) (ap (λ (x : List ℕ). byte ∷ x) high.2))
    ]

-- a number of at most three groups is below 2 ^ 18, and one of at most four below 2 ^ 25
limit-at_two : (more : ℕ) → more ≤ 2 → limit more ≤ 2 ^ 18
limit-at_two zero le = omega arith
limit-at_two (suc zero) le = omega arith
limit-at_two (suc (suc zero)) le = omega arith
limit-at_two (suc (suc (suc more))) le = absurd (omega arith)

pub groups_below : (more : ℕ) (bytes : List ℕ) (p : ℕ × List ℕ) → more ≤ 2 → AreBytes bytes → groups_at more bytes ≡ Ok p → p.0 < 2 ^ 18
groups_below more bytes p le are e = omega (arith, (groups_taken more bytes p are e).1, limit-at_two more le)

pub groups_below_all : (bytes : List ℕ) (p : ℕ × List ℕ) → AreBytes bytes → groups_at 3 bytes ≡ Ok p → p.0 < 2 ^ 25
groups_below_all bytes p are e = omega (arith, (groups_taken 3 bytes p are e).1)

groups_again : (more n : ℕ) (rest : List ℕ) → 0 < n → n < limit more → groups_at more (varint_groups more n ++ rest) ≡ Ok (n, rest)
unfolding groups_at
groups_again zero n rest some lt =
    let fits : nat_le n 15 ≡ true = le-leb _ _ (omega arith) in
    rw (fifth_group, fits, not_zero n some) refl
groups_again (suc more) n rest some lt =
    elim (cases_lt n 128) [
      | inl low ↦ let t : nat_lt n 128 ≡ true = lt-ltb _ _ low in rw (last_group more n low, not_zero n some, t) refl
      | inr le ↦
          let byte = n % 128 + 128 in
          let t : nat_lt byte 128 ≡ false = le-ltb _ _ (omega arith) in
          let whole : byte - 128 + 128 * (n / 128) ≡ n = omega arith in
          rw (higher_group more n le, not_zero byte (omega arith), t, groups_again more (n / 128) rest (omega arith) (omega arith), whole) refl
    ]

varint_taken : (bytes : List ℕ) (p : ℕ × List ℕ) → AreBytes bytes → varint_at bytes ≡ Ok p → FitsVarint p.0 × (bytes ≡ varint p.0 ++ p.1)
unfolding varint_at varint
varint_taken [] p are e = absurd cc
varint_taken (byte ∷ bytes) p are e =
    let P : ℕ × List ℕ → Type 0 = λ q. FitsVarint q.0 × (byte ∷ bytes ≡ varint_groups 4 q.0 ++ q.1) in
    let c = chosen (nat_lt byte 128) (Ok (byte, bytes)) (groups_at 3 bytes >>= λ high. Ok (byte - 128 + 128 * high.0, high.1)) (Ok p) e in
    elim (cases_lt byte 128) [
      | inl lt ↦ subst P (ok_is (byte, bytes) p (c.0 (lt-ltb _ _ lt))) (omega arith, ap (λ (x : List ℕ). x ++ bytes) (sym (last_group 3 byte lt)))
      | inr le ↦
          let b = bind_ok (groups_at 3 bytes) (λ high. Ok (byte - 128 + 128 * high.0, high.1)) p (c.1 (le-ltb _ _ le)) in
          let high = groups_taken 3 bytes b.0 (λ i. are (suc i)) b.1 in
          subst P (ok_is (byte - 128 + 128 * b.0.0, b.0.1) p b.2) (omega (arith, are 0), rw (joined_group 3 byte b.0.0 le (are 0) high.0) (ap (λ (x : List ℕ). byte ∷ x) high.2))
    ]

varint_again : (n : ℕ) (rest : List ℕ) → FitsVarint n → varint_at (varint n ++ rest) ≡ Ok (n, rest)
unfolding varint_at varint
varint_again n rest fits =
    elim (cases_lt n 128) [
      | inl low ↦ let t : nat_lt n 128 ≡ true = lt-ltb _ _ low in rw (last_group 3 n low, t) refl
      | inr le ↦
          let byte = n % 128 + 128 in
          let t : nat_lt byte 128 ≡ false = le-ltb _ _ (omega arith) in
          let whole : byte - 128 + 128 * (n / 128) ≡ n = omega arith in
          rw (higher_group 3 n le, t, groups_again 3 (n / 128) rest (omega arith) (omega arith), whole) refl
    ]

pub varint_is_field : IsField FitsVarint varint varint_at
varint_is_field = record {
  taken = λ bytes n rest are e. varint_taken bytes (n, rest) are e;
  again = varint_again;
}

-- ---- the groups that are written, by their number

pub varint-of_one : (n : ℕ) → n < 128 → varint n ≡ n ∷ []
unfolding varint
varint-of_one n lt = last_group 3 n lt

pub varint-of_two : (n : ℕ) → 128 ≤ n → n < 2 ^ 14 → varint n ≡ (n % 128 + 128) ∷ n / 128 ∷ []
unfolding varint
varint-of_two n le lt = rw (higher_group 3 n le, last_group 2 (n / 128) (omega arith)) refl

pub varint-of_three : (n : ℕ) → 2 ^ 14 ≤ n → n < 2 ^ 21 → varint n ≡ (n % 128 + 128) ∷ (n / 2 ^ 7 % 128 + 128) ∷ n / 2 ^ 14 ∷ []
unfolding varint
varint-of_three n le lt =
    let third : n / 128 / 128 ≡ n / 2 ^ 14 = omega arith in
    rw (higher_group 3 n (omega arith), higher_group 2 (n / 128) (omega arith), last_group 1 (n / 128 / 128) (omega arith), third) refl

pub varint-of_four : (n : ℕ) → 2 ^ 21 ≤ n → n < 2 ^ 28 → varint n ≡ (n % 128 + 128) ∷ (n / 2 ^ 7 % 128 + 128) ∷ (n / 2 ^ 14 % 128 + 128) ∷ n / 2 ^ 21 ∷ []
unfolding varint
varint-of_four n le lt =
    let third : n / 128 / 128 ≡ n / 2 ^ 14 = omega arith in
    let fourth : n / 2 ^ 14 / 128 ≡ n / 2 ^ 21 = omega arith in
    rw (higher_group 3 n (omega arith), higher_group 2 (n / 128) (omega arith), third, higher_group 1 (n / 2 ^ 14) (omega arith), fourth, last_group 0 (n / 2 ^ 21) (omega arith)) refl

pub varint-of_five : (n : ℕ) → 2 ^ 28 ≤ n → varint n ≡ (n % 128 + 128) ∷ (n / 2 ^ 7 % 128 + 128) ∷ (n / 2 ^ 14 % 128 + 128) ∷ (n / 2 ^ 21 % 128 + 128) ∷ n / 2 ^ 28 ∷ []
unfolding varint
varint-of_five n le =
    let third : n / 128 / 128 ≡ n / 2 ^ 14 = omega arith in
    let fourth : n / 2 ^ 14 / 128 ≡ n / 2 ^ 21 = omega arith in
    let fifth : n / 2 ^ 21 / 128 ≡ n / 2 ^ 28 = omega arith in
    rw (higher_group 3 n (omega arith), higher_group 2 (n / 128) (omega arith), third, higher_group 1 (n / 2 ^ 14) (omega arith), fourth, higher_group 0 (n / 2 ^ 21) (omega arith), fifth, fifth_group) refl
