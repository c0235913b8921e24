-- The laws of the number of elements of an array.
use Rattle.std.proofs.Common.{◌≡◌, ℕ, ◌+◌, ◌-◌, ◌^◌, ◌<◌, not, List, ◌++◌, Option, Some, None, Ok, refl, sym, ap, subst, arith, inl, inr}
use Rattle.std.specs.Prelude.{◌==◌, if◌then◌else◌}
use Rattle.std.proofs.lemmas.Bool.{cases_eq, eq-eqb, ne_eqb}
use Rattle.flex_wire.specs.declared.fault.WireFault.TheVariants.{BadCount}
use Rattle.flex_wire.specs.Spelling.{varint, array_count, nullable_array_count, FitsCount, FitsNullableCount}
use Rattle.flex_wire.specs.Reading.{◌>>=◌, demand, varint_at, array_count_at, nullable_array_count_at}
use Rattle.flex_wire.specs.Laws.{AreBytes, IsField}
use Rattle.flex_wire.proofs.Fields.{bind_ok, demand_ok, ok_is, is_zero, positive, not_zero}
use Rattle.flex_wire.proofs.VarintLaws.{varint_is_field}

array_count_taken : (bytes : List ℕ) (p : ℕ × List ℕ) → AreBytes bytes → array_count_at bytes ≡ Ok p → FitsCount p.0 × (bytes ≡ array_count p.0 ++ p.1)
unfolding array_count_at array_count
array_count_taken bytes p are e =
    let b = bind_ok (varint_at bytes) (λ code. demand (not (code.0 == 0)) BadCount >>= λ _. Ok (code.0 - 1, code.1)) p e in
    let d = demand_ok (not (b.0.0 == 0)) BadCount (Ok (b.0.0 - 1, b.0.1)) p b.2 in
    let v = varint_is_field.taken bytes b.0.0 b.0.1 are b.1 in
    let some = positive b.0.0 d.0 in
    let code : b.0.0 - 1 + 1 ≡ b.0.0 = omega arith in
    subst (λ (q : ℕ × List ℕ). FitsCount q.0 × (bytes ≡ varint (q.0 + 1) ++ q.1)) (ok_is (b.0.0 - 1, b.0.1) p d.1) (omega arith, rw code v.1)

array_count_again : (count : ℕ) (rest : List ℕ) → FitsCount count → array_count_at (array_count count ++ rest) ≡ Ok (count, rest)
unfolding array_count_at array_count
array_count_again count rest fits =
    let back : count + 1 - 1 ≡ count = omega arith in
    rw (varint_is_field.again (count + 1) rest fits, not_zero (count + 1) (omega arith), back) refl

pub array_count_is_field : IsField FitsCount array_count array_count_at
array_count_is_field = record {
  taken = λ bytes count rest are e. array_count_taken bytes (count, rest) are e;
  again = array_count_again;
}

-- the number of elements, as its code says
abbrev count_in : ℕ → Option ℕ
count_in code = if code == 0 then None else Some (code - 1)

code_of_count : (code : ℕ) → nullable_array_count (count_in code) ≡ varint code
unfolding nullable_array_count array_count
code_of_count code =
    elim (cases_eq code 0) [
      | inl e ↦ rw (eq-eqb code 0 e) (ap varint (sym e))
      | inr ne ↦ let back : code - 1 + 1 ≡ code = omega arith in rw (ne_eqb code 0 ne, back) refl
    ]

count_in-fits : (code : ℕ) → code < 2 ^ 32 → FitsNullableCount (count_in code)
count_in-fits code lt =
    elim (cases_eq code 0) [
      | inl e ↦ rw (eq-eqb code 0 e) tt
      | inr ne ↦ rw (ne_eqb code 0 ne) (omega arith)
    ]

nullable_array_count_taken : (bytes : List ℕ) (p : Option ℕ × List ℕ) → AreBytes bytes → nullable_array_count_at bytes ≡ Ok p → FitsNullableCount p.0 × (bytes ≡ nullable_array_count p.0 ++ p.1)
unfolding nullable_array_count_at
nullable_array_count_taken bytes p are e =
    let b = bind_ok (varint_at bytes) (λ code. Ok (count_in code.0, code.1)) p e in
    let v = varint_is_field.taken bytes b.0.0 b.0.1 are b.1 in
    subst (λ (q : Option ℕ × List ℕ). FitsNullableCount q.0 × (bytes ≡ nullable_array_count q.0 ++ q.1)) (ok_is (count_in b.0.0, b.0.1) p b.2) (count_in-fits b.0.0 v.0, rw (code_of_count b.0.0) v.1)

nullable_array_count_again : (count : Option ℕ) (rest : List ℕ) → FitsNullableCount count → nullable_array_count_at (nullable_array_count count ++ rest) ≡ Ok (count, rest)
unfolding nullable_array_count_at nullable_array_count array_count
nullable_array_count_again None rest fits = rw (varint_is_field.again 0 rest (omega arith)) refl
nullable_array_count_again (Some count) rest fits =
    let back : count + 1 - 1 ≡ count = omega arith in
    rw (varint_is_field.again (count + 1) rest fits, is_zero (count + 1) (omega arith), back) refl

pub nullable_array_count_is_field : IsField FitsNullableCount nullable_array_count nullable_array_count_at
nullable_array_count_is_field = record {
  taken = λ bytes count rest are e. nullable_array_count_taken bytes (count, rest) are e;
  again = nullable_array_count_again;
}
