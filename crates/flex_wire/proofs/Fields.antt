-- Lemmas on any field: what a call ensures by the field's law, and steps that did not fail.
use Rattle.std.proofs.Common.{◌≡◌, ℕ, zero, suc, ◌+◌, ◌<◌, Bool, true, false, cond, not, List, [], ◌∷◌, ◌++◌, take, drop, Result, Ok, Err, refl, sym, ap, ◌∙◌, arith, inl, inr}
use Rattle.std.specs.Prelude.{IfOk, ◌==◌}
use Rattle.std.proofs.lemmas.Bool.{ne_eqb, not_from_false, cases_lt}
use Rattle.std.proofs.lemmas.List.{length-take, get_or-drop, get_or-take, get_or_past}
use Rattle.flex_wire.specs.declared.fault.WireFault.{WireFault}
use Rattle.flex_wire.specs.Reading.{Read, ◌>>=◌, demand, Reads, ReadsInMemory, Takes, TakesInMemory}
use Rattle.flex_wire.specs.Laws.{AreBytes, IsField, BeginsNoOther}

abbrev done : {A : Type 0} → A → Result A WireFault
done a = Ok a

pub ok_is : {A : Type 0} (x y : A) → done x ≡ done y → x ≡ y
ok_is x y e = cc

-- ---- what a call ensures

-- what is taken is spelled so and fits
pub found_by : {X V : Type 0} {Fits : V → Type 0} {spelling : V → List ℕ} {read : List ℕ → Read V} (view : X → V × List ℕ) → IsField Fits spelling read → (bytes : List ℕ) → AreBytes bytes → (r : Result X WireFault) → Reads view r (read bytes) → IfOk r (λ x. Fits (view x).0 × (bytes ≡ spelling (view x).0 ++ (view x).1))
found_by view field bytes are (Ok x) e = field.taken bytes (view x).0 (view x).1 are e
found_by view field bytes are (Err d) e = tt

-- what is spelled so is taken
pub only_by : {X V : Type 0} {Fits : V → Type 0} {spelling : V → List ℕ} {read : List ℕ → Read V} (view : X → V × List ℕ) → IsField Fits spelling read → (bytes : List ℕ) (r : Result X WireFault) → Reads view r (read bytes) → (v : V) (rest : List ℕ) → Fits v → bytes ≡ spelling v ++ rest → Takes view r v rest
only_by {read = read} view field bytes (Ok x) e v rest fits is = sym (field.again v rest fits) ∙ (ap read (sym is) ∙ e)
only_by {read = read} view field bytes (Err d) e v rest fits is = sym (field.again v rest fits) ∙ (ap read (sym is) ∙ e)

-- the same where memory may run out
pub found_in_memory_by : {X V : Type 0} {Fits : V → Type 0} {spelling : V → List ℕ} {read : List ℕ → Read V} (view : X → V × List ℕ) → IsField Fits spelling read → (bytes : List ℕ) → AreBytes bytes → (r : Result X WireFault) → ReadsInMemory view r (read bytes) → IfOk r (λ x. Fits (view x).0 × (bytes ≡ spelling (view x).0 ++ (view x).1))
found_in_memory_by view field bytes are (Ok x) e = field.taken bytes (view x).0 (view x).1 are e
found_in_memory_by view field bytes are (Err d) e = tt

pub only_in_memory_by : {X V : Type 0} {Fits : V → Type 0} {spelling : V → List ℕ} {read : List ℕ → Read V} (view : X → V × List ℕ) → IsField Fits spelling read → (bytes : List ℕ) (r : Result X WireFault) → ReadsInMemory view r (read bytes) → (v : V) (rest : List ℕ) → Fits v → bytes ≡ spelling v ++ rest → TakesInMemory view r v rest
only_in_memory_by {read = read} view field bytes (Ok x) e v rest fits is = sym (field.again v rest fits) ∙ (ap read (sym is) ∙ e)
only_in_memory_by {read = read} view field bytes (Err d) e v rest fits is = λ other. sym (field.again v rest fits) ∙ (ap read (sym is) ∙ e other)

-- no spelling begins another
pub begins_no_other : {V : Type 0} {Fits : V → Type 0} {spelling : V → List ℕ} {read : List ℕ → Read V} → IsField Fits spelling read → BeginsNoOther Fits spelling
begins_no_other {V} {read = read} field v w x y fits_v fits_w e =
    let one = field.again v x fits_v in
    let two = field.again w y fits_w in
    let same : Ok (v, x) ≡ Ok (w, y) = sym one ∙ (ap read e ∙ two) in
    let parts = ok_is (v, x) (w, y) same in
    (ap (λ (p : V × List ℕ). p.0) parts, ap (λ (p : V × List ℕ). p.1) parts)

-- ---- steps that did not fail

pub bind_ok : {A B : Type 0} (r : Result A WireFault) (f : A → Result B WireFault) (y : B) → (r >>= f) ≡ Ok y → (x : A) × (r ≡ Ok x) × (f x ≡ Ok y)
bind_ok (Ok x) f y e = (x, refl, e)
bind_ok (Err d) f y e = absurd cc

pub demand_ok : {B : Type 0} (test : Bool) (fault : WireFault) (r : Result B WireFault) (y : B) → (demand test fault >>= λ _. r) ≡ Ok y → (test ≡ true) × (r ≡ Ok y)
demand_ok true fault r y e = (refl, e)
demand_ok false fault r y e = absurd cc

pub guard_ok : {A : Type 0} (test : Bool) (fault : WireFault) (x y : A) → cond test (Err fault) (Ok x) ≡ Ok y → (test ≡ false) × (x ≡ y)
guard_ok true fault x y e = absurd cc
guard_ok false fault x y e = (refl, cc)

-- which way a test went
pub chosen : {A : Type 0} (b : Bool) (x y z : A) → cond b x y ≡ z → (b ≡ true → x ≡ z) × (b ≡ false → y ≡ z)
chosen true x y z e = (λ _. e, λ no. absurd cc)
chosen false x y z e = (λ no. absurd cc, λ _. e)

-- ---- tests

pub is_zero : (n : ℕ) → 0 < n → (n == 0) ≡ false
is_zero n some = ne_eqb n 0 (λ e. absurd (omega arith))

pub positive : (n : ℕ) → not (n == 0) ≡ true → 0 < n
positive zero e = absurd cc
positive (suc n) e = omega arith

pub not_zero : (n : ℕ) → 0 < n → not (n == 0) ≡ true
not_zero n some = not_from_false _ (is_zero n some)

-- ---- bytes

pub AreBytes-front : (front rest : List ℕ) → AreBytes (front ++ rest) → AreBytes front
AreBytes-front [] rest are i = omega arith
AreBytes-front (b ∷ front) rest are zero = are 0
AreBytes-front (b ∷ front) rest are (suc i) = AreBytes-front front rest (λ j. are (suc j)) i

pub AreBytes-rest : (front rest : List ℕ) → AreBytes (front ++ rest) → AreBytes rest
AreBytes-rest [] rest are i = are i
AreBytes-rest (b ∷ front) rest are i = AreBytes-rest front rest (λ j. are (suc j)) i

pub AreBytes-drop : (n : ℕ) (bytes : List ℕ) → AreBytes bytes → AreBytes (drop n bytes)
AreBytes-drop n bytes are i = rw get_or-drop (are (n + i))

pub AreBytes-take : (n : ℕ) (bytes : List ℕ) → AreBytes bytes → AreBytes (take n bytes)
AreBytes-take n bytes are i =
    elim (cases_lt i n) [
      | inl lt ↦ rw (get_or-take n bytes i 0 lt) (are i)
      | inr le ↦ rw (get_or_past (take n bytes) i 0 (omega (arith, length-take n bytes))) (omega arith)
    ]
