-- The laws of fields that are made of fields: each is a field where its parts are.
use Rattle.std.proofs.Common.{◌≡◌, ℕ, zero, suc, Bool, true, List, [], ◌∷◌, ◌++◌, length, Option, Some, None, Ok, refl, sym, ap, subst, ◌∙◌, append_assoc}
use Rattle.std.specs.List.{flat_map, AllByRecursion}
use Rattle.std.proofs.lemmas.List.Concat.{flat_map-cons}
use Rattle.std.proofs.lemmas.List.Elements.{All-from_recursion, recursion_from_All}
use Rattle.flex_wire.specs.declared.fault.WireFault.{WireFault}
use Rattle.flex_wire.specs.Spelling.{varint, array_count, nullable_array_count, FitsCount, FitsNullableCount}
use Rattle.flex_wire.specs.Reading.{Read, ◌>>=◌, demand, array_count_at, nullable_array_count_at}
use Rattle.flex_wire.specs.Laws.{AreBytes, IsField}
use Rattle.flex_wire.specs.Composed.{nothing_at, pair_at, made_at, fitting_at, elements_at, array, array_at, FitsArray, nullable_array, some_elements_at, nullable_array_at, FitsNullableArray}
use Rattle.flex_wire.proofs.Fields.{bind_ok, demand_ok, ok_is, AreBytes-rest}
use Rattle.flex_wire.proofs.CountLaws.{array_count_is_field, nullable_array_count_is_field}

pub nothing_is_field : IsField (λ (_ : Unit {0}). Unit {0}) (λ _. []) nothing_at
nothing_is_field = record {
  taken = λ bytes value rest are e. (tt, ap (λ (p : Unit {0} × List ℕ). p.1) (ok_is (tt, bytes) (value, rest) e));
  again = λ value rest fits. refl;
}

pub pair_is_field : {V W : Type 0} {F : V → Type 0} {G : W → Type 0} {s : V → List ℕ} {t : W → List ℕ} {r : List ℕ → Read V} {q : List ℕ → Read W} → IsField F s r → IsField G t q → IsField (λ (p : V × W). F p.0 × G p.1) (λ p. s p.0 ++ t p.1) (pair_at r q)
pair_is_field {V} {W} {F} {G} {s} {t} {r} {q} first second = record {
  taken = λ bytes value rest are e.
      let a = bind_ok (r bytes) (λ v. q v.1 >>= λ w. Ok ((v.0, w.0), w.1)) (value, rest) e in
      let b = bind_ok (q a.0.1) (λ w. Ok ((a.0.0, w.0), w.1)) (value, rest) a.2 in
      let x = first.taken bytes a.0.0 a.0.1 are a.1 in
      let y = second.taken a.0.1 b.0.0 b.0.1 (AreBytes-rest (s a.0.0) a.0.1 (subst AreBytes x.1 are)) b.1 in
      subst (λ (p : (V × W) × List ℕ). (F p.0.0 × G p.0.1) × (bytes ≡ (s p.0.0 ++ t p.0.1) ++ p.1)) (ok_is ((a.0.0, b.0.0), b.0.1) (value, rest) b.2) ((x.0, y.0), x.1 ∙ (ap (λ (l : List ℕ). s a.0.0 ++ l) y.1 ∙ sym (append_assoc (s a.0.0) (t b.0.0) b.0.1)));
  again = λ value rest fits. ap (pair_at r q) (append_assoc (s value.0) (t value.1) rest) ∙ rw (first.again value.0 (t value.1 ++ rest) fits.0, second.again value.1 rest fits.1) refl;
}

-- a field whose value is made of its parts, and the parts of the value
pub made_is_field : {V W : Type 0} {F : V → Type 0} {s : V → List ℕ} {r : List ℕ → Read V} (make : V → W) (parts : W → V) → ((w : W) → make (parts w) ≡ w) → ((v : V) → parts (make v) ≡ v) → IsField F s r → IsField (λ w. F (parts w)) (λ w. s (parts w)) (made_at make r)
made_is_field {V} {W} {F} {s} {r} make parts made apart field = record {
  taken = λ bytes value rest are e.
      let a = bind_ok (r bytes) (λ v. Ok (make v.0, v.1)) (value, rest) e in
      let x = field.taken bytes a.0.0 a.0.1 are a.1 in
      subst (λ (p : W × List ℕ). F (parts p.0) × (bytes ≡ s (parts p.0) ++ p.1)) (ok_is (make a.0.0, a.0.1) (value, rest) a.2) (subst (λ (v : V). F v × (bytes ≡ s v ++ a.0.1)) (sym (apart a.0.0)) x);
  again = λ value rest fits. rw (field.again (parts value) rest fits, made value) refl;
}

pub fitting_is_field : {V : Type 0} {F : V → Type 0} {s : V → List ℕ} {r : List ℕ → Read V} (test : V → Bool) (fault : WireFault) → IsField F s r → IsField (λ v. F v × (test v ≡ true)) s (fitting_at test fault r)
fitting_is_field {V} {F} {s} {r} test fault field = record {
  taken = λ bytes value rest are e.
      let a = bind_ok (r bytes) (λ v. demand (test v.0) fault >>= λ _. Ok v) (value, rest) e in
      let d = demand_ok (test a.0.0) fault (Ok a.0) (value, rest) a.2 in
      let x = field.taken bytes a.0.0 a.0.1 are a.1 in
      subst (λ (p : V × List ℕ). (F p.0 × (test p.0 ≡ true)) × (bytes ≡ s p.0 ++ p.1)) (ok_is a.0 (value, rest) d.1) ((x.0, d.0), x.1);
  again = λ value rest fits. rw (field.again value rest fits.0, fits.1) refl;
}

-- the same field under another account of what fits
pub refitted_is_field : {V : Type 0} {F G : V → Type 0} {s : V → List ℕ} {r : List ℕ → Read V} → ((v : V) → F v → G v) → ((v : V) → G v → F v) → IsField F s r → IsField G s r
refitted_is_field there back field = record {
  taken = λ bytes value rest are e. let x = field.taken bytes value rest are e in (there value x.0, x.1);
  again = λ value rest fits. field.again value rest (back value fits);
}

-- elements, one after another, as they were taken from the front
pub record AreTaken {V : Type 0} (F : V → Type 0) (s : V → List ℕ) (count : ℕ) (bytes : List ℕ) (p : List V × List ℕ) : Type 0 where
  pub len : length p.0 ≡ count
  pub each : AllByRecursion F p.0
  pub parts : bytes ≡ flat_map s p.0 ++ p.1

pub elements_taken : {V : Type 0} {F : V → Type 0} {s : V → List ℕ} {r : List ℕ → Read V} → IsField F s r → (count : ℕ) (bytes : List ℕ) (p : List V × List ℕ) → AreBytes bytes → elements_at r count bytes ≡ Ok p → AreTaken F s count bytes p
unfolding elements_at
elements_taken {V} {F} {s} {r} field zero bytes p are e =
    subst (AreTaken F s 0 bytes) (ok_is ([], bytes) p e) (record { len = refl; each = tt; parts = refl })
elements_taken {V} {F} {s} {r} field (suc count) bytes p are e =
    let a = bind_ok (r bytes) (λ first. elements_at r count first.1 >>= λ others. Ok (first.0 ∷ others.0, others.1)) p e in
    let b = bind_ok (elements_at r count a.0.1) (λ others. Ok (a.0.0 ∷ others.0, others.1)) p a.2 in
    let first = field.taken bytes a.0.0 a.0.1 are a.1 in
    let others = elements_taken field count a.0.1 b.0 (AreBytes-rest (s a.0.0) a.0.1 (subst AreBytes first.1 are)) b.1 in
    let parts : bytes ≡ flat_map s (a.0.0 ∷ b.0.0) ++ b.0.1 = first.1 ∙ (ap (λ (l : List ℕ). s a.0.0 ++ l) others.parts ∙ (sym (append_assoc (s a.0.0) (flat_map s b.0.0) b.0.1) ∙ ap (λ (l : List ℕ). l ++ b.0.1) (sym (flat_map-cons s a.0.0 b.0.0)))) in
    subst (AreTaken F s (suc count) bytes) (ok_is (a.0.0 ∷ b.0.0, b.0.1) p b.2) (record { len = ap suc others.len; each = (first.0, others.each); parts = parts })

pub elements_again : {V : Type 0} {F : V → Type 0} {s : V → List ℕ} {r : List ℕ → Read V} → IsField F s r → (elements : List V) (rest : List ℕ) → AllByRecursion F elements → elements_at r (length elements) (flat_map s elements ++ rest) ≡ Ok (elements, rest)
unfolding elements_at
elements_again field [] rest fits = refl
elements_again {V} {F} {s} {r} field (first ∷ others) rest fits =
    let regrouped : flat_map s (first ∷ others) ++ rest ≡ s first ++ (flat_map s others ++ rest) = ap (λ (x : List ℕ). x ++ rest) (flat_map-cons s first others) ∙ append_assoc (s first) (flat_map s others) rest in
    ap (elements_at r (suc (length others))) regrouped ∙ rw (field.again first (flat_map s others ++ rest) fits.0, elements_again field others rest fits.1) refl

array_joined : {V : Type 0} (s : V → List ℕ) (count : ℕ) (bytes after : List ℕ) (p : List V × List ℕ) → bytes ≡ array_count count ++ after → length p.0 ≡ count → after ≡ flat_map s p.0 ++ p.1 → bytes ≡ array s p.0 ++ p.1
array_joined s count bytes after p head len tail = head ∙ (rw (← len, tail) (sym (append_assoc (array_count (length p.0)) (flat_map s p.0) p.1)))

array_taken : {V : Type 0} {F : V → Type 0} {s : V → List ℕ} {r : List ℕ → Read V} → IsField F s r → (bytes : List ℕ) (p : List V × List ℕ) → AreBytes bytes → array_at r bytes ≡ Ok p → FitsArray F p.0 × (bytes ≡ array s p.0 ++ p.1)
unfolding array_at
array_taken {V} {F} {s} {r} field bytes p are e =
    let a = bind_ok (array_count_at bytes) (λ count. elements_at r count.0 count.1) p e in
    let count = array_count_is_field.taken bytes a.0.0 a.0.1 are a.1 in
    let all = elements_taken field a.0.0 a.0.1 p (AreBytes-rest (array_count a.0.0) a.0.1 (subst AreBytes count.1 are)) a.2 in
    ((subst FitsCount (sym all.len) count.0, All-from_recursion F p.0 all.each), array_joined s a.0.0 bytes a.0.1 p count.1 all.len all.parts)

pub array_is_field : {V : Type 0} {F : V → Type 0} {s : V → List ℕ} {r : List ℕ → Read V} → IsField F s r → IsField (FitsArray F) (array s) (array_at r)
unfolding array_at
array_is_field {V} {F} {s} {r} field = record {
  taken = λ bytes elements rest are e. array_taken field bytes (elements, rest) are e;
  again = λ elements rest fits.
      ap (array_at r) (append_assoc (array_count (length elements)) (flat_map s elements) rest)
      ∙ rw (array_count_is_field.again (length elements) (flat_map s elements ++ rest) fits.0) (elements_again field elements rest (recursion_from_All F elements fits.1));
}

some_elements_taken : {V : Type 0} {F : V → Type 0} {s : V → List ℕ} {r : List ℕ → Read V} → IsField F s r → (count : Option ℕ) (bytes : List ℕ) (p : Option (List V) × List ℕ) → FitsNullableCount count → AreBytes bytes → some_elements_at r count bytes ≡ Ok p → FitsNullableArray F p.0 × (nullable_array_count count ++ bytes ≡ nullable_array s p.0 ++ p.1)
unfolding nullable_array_count
some_elements_taken {V} {F} {s} {r} field None bytes p fits are e =
    subst (λ (q : Option (List V) × List ℕ). FitsNullableArray F q.0 × (varint 0 ++ bytes ≡ nullable_array s q.0 ++ q.1)) (ok_is (None, bytes) p e) (tt, refl)
some_elements_taken {V} {F} {s} {r} field (Some count) bytes p fits are e =
    let a = bind_ok (elements_at r count bytes) (λ elements. Ok (Some elements.0, elements.1)) p e in
    let all = elements_taken field count bytes a.0 are a.1 in
    subst (λ (q : Option (List V) × List ℕ). FitsNullableArray F q.0 × (array_count count ++ bytes ≡ nullable_array s q.0 ++ q.1)) (ok_is (Some a.0.0, a.0.1) p a.2) ((subst FitsCount (sym all.len) fits, All-from_recursion F a.0.0 all.each), array_joined s count (array_count count ++ bytes) bytes a.0 refl all.len all.parts)

none_again : (rest : List ℕ) → nullable_array_count_at (varint 0 ++ rest) ≡ Ok (None, rest)
unfolding nullable_array_count
none_again rest = nullable_array_count_is_field.again None rest tt

some_again : (count : ℕ) (rest : List ℕ) → FitsCount count → nullable_array_count_at (array_count count ++ rest) ≡ Ok (Some count, rest)
unfolding nullable_array_count
some_again count rest fits = nullable_array_count_is_field.again (Some count) rest fits

nullable_array_again : {V : Type 0} {F : V → Type 0} {s : V → List ℕ} {r : List ℕ → Read V} → IsField F s r → (elements : Option (List V)) (rest : List ℕ) → FitsNullableArray F elements → nullable_array_at r (nullable_array s elements ++ rest) ≡ Ok (elements, rest)
unfolding nullable_array_at
nullable_array_again {V} {F} {s} {r} field None rest fits =
    let head : nullable_array_count_at (varint 0 ++ rest) ≡ Ok (None, rest) = none_again rest in
    rw head refl
nullable_array_again {V} {F} {s} {r} field (Some elements) rest fits =
    let head : nullable_array_count_at (array_count (length elements) ++ (flat_map s elements ++ rest)) ≡ Ok (Some (length elements), flat_map s elements ++ rest) = some_again (length elements) (flat_map s elements ++ rest) fits.0 in
    ap (nullable_array_at r) (append_assoc (array_count (length elements)) (flat_map s elements) rest)
    ∙ rw (head, elements_again field elements rest (recursion_from_All F elements fits.1)) refl

pub nullable_array_is_field : {V : Type 0} {F : V → Type 0} {s : V → List ℕ} {r : List ℕ → Read V} → IsField F s r → IsField (FitsNullableArray F) (nullable_array s) (nullable_array_at r)
unfolding nullable_array_at
nullable_array_is_field {V} {F} {s} {r} field = record {
  taken = λ bytes elements rest are e.
      let a = bind_ok (nullable_array_count_at bytes) (λ count. some_elements_at r count.0 count.1) (elements, rest) e in
      let head = nullable_array_count_is_field.taken bytes a.0.0 a.0.1 are a.1 in
      let all = some_elements_taken field a.0.0 a.0.1 (elements, rest) head.0 (AreBytes-rest (nullable_array_count a.0.0) a.0.1 (subst AreBytes head.1 are)) a.2 in
      (all.0, head.1 ∙ all.1);
  again = nullable_array_again field;
}
