-- The laws of the texts.
use Rattle.std.proofs.Common.{◌≡◌, ℕ, zero, suc, ℤ, pos, negsuc, ◌+◌, ◌-◌, ◌<◌, ◌≤◌, true, false, not, cond, List, ◌++◌, length, Option, Some, None, Ok, Err, refl, sym, ap, subst, ◌∙◌, append_assoc, arith, inl, inr}
use Rattle.std.specs.Prelude.{◌==◌, nat_le, IsUtf8, FitsSigned}
use Rattle.std.specs.Str.{is_utf8}
use Rattle.std.specs.Int.{w16}
use Rattle.std.proofs.lemmas.Bool.{cases_eq, eq-eqb, ne_eqb, leb-true, le-leb, false_from_ne_true}
use Rattle.std.proofs.lemmas.Int.{ints}
use Rattle.std.proofs.lemmas.Str.{IsUtf8-from_is_utf8, is_utf8-from_IsUtf8}
use Rattle.flex_wire.specs.declared.fault.WireFault.TheVariants.{BadCount, TooLong, NotUtf8}
use Rattle.flex_wire.specs.Limits.{LONGEST_STRING}
use Rattle.flex_wire.specs.Spelling.{varint, signed, compact_string, compact_nullable_string, nullable_string, FitsText, FitsNullableText}
use Rattle.flex_wire.specs.Reading.{◌>>=◌, demand, bytes_at, varint_at, signed_at, text_at, compact_text_at, compact_string_at, compact_nullable_string_at, nullable_text_at, nullable_string_at}
use Rattle.flex_wire.specs.Laws.{AreBytes, IsField}
use Rattle.flex_wire.proofs.Fields.{bind_ok, demand_ok, chosen, ok_is, is_zero, positive, not_zero}
use Rattle.flex_wire.proofs.IntLaws.{bytes_taken, bytes_again, signed_is_field, wide16}
use Rattle.flex_wire.proofs.VarintLaws.{varint_is_field}

-- a text of `size` bytes was taken from the front
pub record IsTextOf (size : ℕ) (bytes : List ℕ) (p : List ℕ × List ℕ) : Type 0 where
  pub len : length p.0 ≡ size
  pub utf8 : IsUtf8 p.0
  pub parts : bytes ≡ p.0 ++ p.1

text_taken : (size : ℕ) (bytes : List ℕ) (p : List ℕ × List ℕ) → text_at size bytes ≡ Ok p → IsTextOf size bytes p
unfolding text_at
text_taken size bytes p e =
    let b = bind_ok (bytes_at size bytes) (λ text. demand (is_utf8 text.0) NotUtf8 >>= λ _. Ok text) p e in
    let d = demand_ok (is_utf8 b.0.0) NotUtf8 (Ok b.0) p b.2 in
    let t = bytes_taken size bytes b.0.0 b.0.1 b.1 in
    subst (IsTextOf size bytes) (ok_is b.0 p d.1) (record { len = t.0; utf8 = IsUtf8-from_is_utf8 b.0.0 d.0; parts = t.1 })

text_again : (text rest : List ℕ) → IsUtf8 text → text_at (length text) (text ++ rest) ≡ Ok (text, rest)
unfolding text_at
text_again text rest utf8 = rw (bytes_again (length text) text rest refl, is_utf8-from_IsUtf8 text utf8) refl

-- bytes that were cut off, as a text or as none
pub text_is : (size : ℕ) (bytes front rest text : List ℕ) → bytes_at size bytes ≡ Ok (front, rest) → text ≡ front → IsUtf8 front → text_at size bytes ≡ Ok (text, rest)
unfolding text_at
text_is size bytes front rest text cut same utf8 = rw (cut, is_utf8-from_IsUtf8 front utf8, same) refl

pub text_is_none : (size : ℕ) (bytes front rest : List ℕ) → bytes_at size bytes ≡ Ok (front, rest) → ¬ (IsUtf8 front) → text_at size bytes ≡ Err NotUtf8
unfolding text_at
text_is_none size bytes front rest cut none =
    let no_text : is_utf8 front ≡ false = false_from_ne_true (is_utf8 front) (λ yes. none (IsUtf8-from_is_utf8 front yes)) in
    rw (cut, no_text) refl

compact_text_taken : (code : ℕ) (bytes : List ℕ) (p : List ℕ × List ℕ) → compact_text_at code bytes ≡ Ok p → (code - 1 ≤ LONGEST_STRING) × IsTextOf (code - 1) bytes p
unfolding compact_text_at
compact_text_taken code bytes p e =
    let d = demand_ok (nat_le (code - 1) LONGEST_STRING) TooLong (text_at (code - 1) bytes) p e in
    (leb-true _ _ d.0, text_taken (code - 1) bytes p d.1)

compact_text_again : (text rest : List ℕ) → FitsText text → compact_text_at (length text + 1) (text ++ rest) ≡ Ok (text, rest)
unfolding compact_text_at
compact_text_again text rest fits =
    let size : length text + 1 - 1 ≡ length text = omega arith in
    let short : nat_le (length text) LONGEST_STRING ≡ true = le-leb _ _ fits.length in
    rw (size, short, text_again text rest fits.utf8) refl

-- a varint and the text behind it
compact_string_joined : (bytes after : List ℕ) (code : ℕ) (p : List ℕ × List ℕ) → 0 < code → bytes ≡ varint code ++ after → (code - 1 ≤ LONGEST_STRING) × IsTextOf (code - 1) after p → FitsText p.0 × (bytes ≡ compact_string p.0 ++ p.1)
unfolding compact_string
compact_string_joined bytes after code p some head text =
    let size : code ≡ length p.0 + 1 = omega (arith, text.1.len) in
    (record { length = omega (arith, text.1.len, text.0); utf8 = text.1.utf8 }, head ∙ (rw (size, text.1.parts) (sym (append_assoc (varint (length p.0 + 1)) p.0 p.1))))

compact_string_taken : (bytes : List ℕ) (p : List ℕ × List ℕ) → AreBytes bytes → compact_string_at bytes ≡ Ok p → FitsText p.0 × (bytes ≡ compact_string p.0 ++ p.1)
unfolding compact_string_at
compact_string_taken bytes p are e =
    let b = bind_ok (varint_at bytes) (λ code. demand (not (code.0 == 0)) BadCount >>= λ _. compact_text_at code.0 code.1) p e in
    let d = demand_ok (not (b.0.0 == 0)) BadCount (compact_text_at b.0.0 b.0.1) p b.2 in
    let v = varint_is_field.taken bytes b.0.0 b.0.1 are b.1 in
    compact_string_joined bytes b.0.1 b.0.0 p (positive b.0.0 d.0) v.1 (compact_text_taken b.0.0 b.0.1 p d.1)

compact_string_again : (text rest : List ℕ) → FitsText text → compact_string_at (compact_string text ++ rest) ≡ Ok (text, rest)
unfolding compact_string_at compact_string
compact_string_again text rest fits =
    ap compact_string_at (append_assoc (varint (length text + 1)) text rest)
    ∙ rw (varint_is_field.again (length text + 1) (text ++ rest) (omega (arith, fits.length)), not_zero (length text + 1) (omega arith), compact_text_again text rest fits) refl

pub compact_string_is_field : IsField FitsText compact_string compact_string_at
compact_string_is_field = record {
  taken = λ bytes text rest are e. compact_string_taken bytes (text, rest) are e;
  again = compact_string_again;
}

compact_nullable_string_taken : (bytes : List ℕ) (p : Option (List ℕ) × List ℕ) → AreBytes bytes → compact_nullable_string_at bytes ≡ Ok p → FitsNullableText p.0 × (bytes ≡ compact_nullable_string p.0 ++ p.1)
unfolding compact_nullable_string_at compact_nullable_string
compact_nullable_string_taken bytes p are e =
    let P : Option (List ℕ) × List ℕ → Type 0 = λ q. FitsNullableText q.0 × (bytes ≡ compact_nullable_string q.0 ++ q.1) in
    let b = bind_ok (varint_at bytes) (λ code. cond (code.0 == 0) (Ok (None, code.1)) (compact_text_at code.0 code.1 >>= λ text. Ok (Some text.0, text.1))) p e in
    let v = varint_is_field.taken bytes b.0.0 b.0.1 are b.1 in
    let c = chosen (b.0.0 == 0) (Ok (None, b.0.1)) (compact_text_at b.0.0 b.0.1 >>= λ text. Ok (Some text.0, text.1)) (Ok p) b.2 in
    elim (cases_eq b.0.0 0) [
      | inl null ↦ subst P {x = (None, b.0.1)} (ok_is (None, b.0.1) p (c.0 (eq-eqb b.0.0 0 null))) (tt, v.1 ∙ ap (λ (n : ℕ). varint n ++ b.0.1) null)
      | inr some ↦
          let t = bind_ok (compact_text_at b.0.0 b.0.1) (λ text. Ok (Some text.0, text.1)) p (c.1 (ne_eqb b.0.0 0 some)) in
          subst P {x = (Some t.0.0, t.0.1)} (ok_is (Some t.0.0, t.0.1) p t.2) (compact_string_joined bytes b.0.1 b.0.0 t.0 (omega arith) v.1 (compact_text_taken b.0.0 b.0.1 t.0 t.1))
    ]

compact_nullable_string_again : (text : Option (List ℕ)) (rest : List ℕ) → FitsNullableText text → compact_nullable_string_at (compact_nullable_string text ++ rest) ≡ Ok (text, rest)
unfolding compact_nullable_string_at compact_nullable_string compact_string
compact_nullable_string_again None rest fits = rw (varint_is_field.again 0 rest (omega arith)) refl
compact_nullable_string_again (Some text) rest fits =
    ap compact_nullable_string_at (append_assoc (varint (length text + 1)) text rest)
    ∙ rw (varint_is_field.again (length text + 1) (text ++ rest) (omega (arith, fits.length)), is_zero (length text + 1) (omega arith), compact_text_again text rest fits) refl

pub compact_nullable_string_is_field : IsField FitsNullableText compact_nullable_string compact_nullable_string_at
compact_nullable_string_is_field = record {
  taken = λ bytes text rest are e. compact_nullable_string_taken bytes (text, rest) are e;
  again = compact_nullable_string_again;
}

size_fits : (size : ℕ) → FitsSigned w16 (pos size) → size ≤ LONGEST_STRING
size_fits size fits = omega (arith, ints)

fits_size : (size : ℕ) → size ≤ LONGEST_STRING → FitsSigned w16 (pos size)
fits_size size le = omega (arith, ints)

old_text_joined : (size : ℕ) (bytes : List ℕ) (p : List ℕ × List ℕ) → IsTextOf size bytes p → signed w16 (pos size) ++ bytes ≡ (signed w16 (pos (length p.0)) ++ p.0) ++ p.1
old_text_joined size bytes p text = rw (text.len, text.parts) (sym (append_assoc (signed w16 (pos size)) p.0 p.1))

nullable_text_taken : (size : ℤ) (bytes : List ℕ) (p : Option (List ℕ) × List ℕ) → FitsSigned w16 size → nullable_text_at size bytes ≡ Ok p → FitsNullableText p.0 × (signed w16 size ++ bytes ≡ nullable_string p.0 ++ p.1)
unfolding nullable_text_at nullable_string
nullable_text_taken (pos size) bytes p fits e =
    let b = bind_ok (text_at size bytes) (λ text. Ok (Some text.0, text.1)) p e in
    let t = text_taken size bytes b.0 b.1 in
    subst (λ (q : Option (List ℕ) × List ℕ). FitsNullableText q.0 × (signed w16 (pos size) ++ bytes ≡ nullable_string q.0 ++ q.1)) (ok_is (Some b.0.0, b.0.1) p b.2) (record { length = omega (arith, t.len, size_fits size fits); utf8 = t.utf8 }, old_text_joined size bytes b.0 t)
nullable_text_taken (negsuc zero) bytes p fits e =
    subst (λ (q : Option (List ℕ) × List ℕ). FitsNullableText q.0 × (signed w16 (negsuc zero) ++ bytes ≡ nullable_string q.0 ++ q.1)) (ok_is (None, bytes) p e) (tt, refl)
nullable_text_taken (negsuc (suc n)) bytes p fits e = absurd cc

nullable_string_taken : (bytes : List ℕ) (p : Option (List ℕ) × List ℕ) → AreBytes bytes → nullable_string_at bytes ≡ Ok p → FitsNullableText p.0 × (bytes ≡ nullable_string p.0 ++ p.1)
unfolding nullable_string_at
nullable_string_taken bytes p are e =
    let b = bind_ok (signed_at w16 bytes) (λ size. nullable_text_at size.0 size.1) p e in
    let s = (signed_is_field w16 wide16).taken bytes b.0.0 b.0.1 are b.1 in
    let t = nullable_text_taken b.0.0 b.0.1 p s.0 b.2 in
    (t.0, s.1 ∙ t.1)

null_fits : FitsSigned w16 (negsuc 0)
null_fits = record { sfits = omega arith }

nullable_string_again : (text : Option (List ℕ)) (rest : List ℕ) → FitsNullableText text → nullable_string_at (nullable_string text ++ rest) ≡ Ok (text, rest)
unfolding nullable_string_at nullable_string nullable_text_at
nullable_string_again None rest fits = rw ((signed_is_field w16 wide16).again (negsuc 0) rest null_fits) refl
nullable_string_again (Some text) rest fits =
    ap nullable_string_at (append_assoc (signed w16 (pos (length text))) text rest)
    ∙ rw ((signed_is_field w16 wide16).again (pos (length text)) (text ++ rest) (fits_size (length text) fits.length), text_again text rest fits.utf8) refl

pub nullable_string_is_field : IsField FitsNullableText nullable_string nullable_string_at
nullable_string_is_field = record {
  taken = λ bytes text rest are e. nullable_string_taken bytes (text, rest) are e;
  again = nullable_string_again;
}
