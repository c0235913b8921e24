-- The laws of fields of a known number of bytes: INT16, INT32, INT64 and UUID.
use Rattle.std.proofs.Common.{◌≡◌, ℕ, ℤ, ◌^◌, ◌<◌, ◌≤◌, false, ltb, List, ◌++◌, length, take, drop, Ok, refl, sym, ap, subst, ◌∙◌, length-append, arith}
use Rattle.std.specs.Prelude.{FitsSigned}
use Rattle.std.specs.Int.{Width, w16, w32, w64, byte_len, from_be_bytes, to_be_bytes, cast_signed, cast_unsigned}
use mir.Val.{bits}
use Rattle.std.proofs.lemmas.Bool.{ltb-false, le-ltb}
use Rattle.std.proofs.lemmas.List.{take_at, drop_at, take-append-drop, length-take}
use Rattle.std.proofs.lemmas.Nat.{be_bytes_2, be_bytes_4, be_bytes_8, from_be_bytes-to_be_bytes_2, from_be_bytes-to_be_bytes_4, from_be_bytes-to_be_bytes_8}
use Rattle.std.proofs.lemmas.Int.{of_z-to_z, to_z-of_z}
use Rattle.std.proofs.Math.Facts.{sfits_to_z, Fits-of_lt, Fits-of_z, Fits-lt-pow}
use Rattle.flex_wire.specs.declared.fault.WireFault.TheVariants.{Short}
use Rattle.flex_wire.specs.Spelling.{signed, uuid, FitsUuid}
use Rattle.flex_wire.specs.Reading.{bytes_at, signed_at, uuid_at}
use Rattle.flex_wire.specs.Laws.{AreBytes, IsField}
use Rattle.flex_wire.proofs.Fields.{guard_ok, bind_ok, ok_is, AreBytes-front}

pub bytes_taken : (size : ℕ) (bytes front rest : List ℕ) → bytes_at size bytes ≡ Ok (front, rest) → (length front ≡ size) × (bytes ≡ front ++ rest)
unfolding bytes_at
bytes_taken size bytes front rest e =
    let g = guard_ok (ltb (length bytes) size) Short (take size bytes, drop size bytes) (front, rest) e in
    let long : size ≤ length bytes = ltb-false _ _ g.0 in
    let len : length (take size bytes) ≡ size = omega (arith, length-take size bytes) in
    subst (λ (p : List ℕ × List ℕ). (length p.0 ≡ size) × (bytes ≡ p.0 ++ p.1)) g.1 (len, sym (take-append-drop size bytes))

pub bytes_again : (size : ℕ) (front rest : List ℕ) → length front ≡ size → bytes_at size (front ++ rest) ≡ Ok (front, rest)
unfolding bytes_at
bytes_again size front rest len =
    let long : ltb (length (front ++ rest)) size ≡ false = le-ltb _ _ (omega (arith, length-append front rest)) in
    rw (long, take_at front rest size len, drop_at front rest size len) refl

pub uuid_is_field : IsField FitsUuid uuid uuid_at
unfolding uuid_at
uuid_is_field = record {
  taken = λ bytes id rest are e. bytes_taken 16 bytes id rest e;
  again = λ id rest fits. bytes_again 16 id rest fits;
}

-- bytes as a number of a width, and back
pub record IsWide (w : Width) : Type 0 where
  pub len : (n : ℕ) → length (to_be_bytes w n) ≡ byte_len w
  pub back : (bytes : List ℕ) → length bytes ≡ byte_len w → AreBytes bytes → to_be_bytes w (from_be_bytes w bytes) ≡ bytes
  pub again : (n : ℕ) → n < 2 ^ bits w → from_be_bytes w (to_be_bytes w n) ≡ n
  pub below : (bytes : List ℕ) → AreBytes bytes → from_be_bytes w bytes < 2 ^ bits w

pub wide16 : IsWide w16
wide16 = record {
  len = λ n. refl;
  back = λ bytes len are. be_bytes_2 bytes _ len are refl;
  again = λ n lt. from_be_bytes-to_be_bytes_2 n lt;
  below = λ bytes are. omega (arith, are 0, are 1);
}

pub wide32 : IsWide w32
wide32 = record {
  len = λ n. refl;
  back = λ bytes len are. be_bytes_4 bytes _ len are refl;
  again = λ n lt. from_be_bytes-to_be_bytes_4 n lt;
  below = λ bytes are. omega (arith, are 0, are 1, are 2, are 3);
}

pub wide64 : IsWide w64
wide64 = record {
  len = λ n. refl;
  back = λ bytes len are. be_bytes_8 bytes _ len are refl;
  again = λ n lt. from_be_bytes-to_be_bytes_8 n lt;
  below = λ bytes are. omega (arith, are 0, are 1, are 2, are 3, are 4, are 5, are 6, are 7);
}

signed_taken : (w : Width) → IsWide w → (bytes : List ℕ) (z : ℤ) (rest : List ℕ) → AreBytes bytes → signed_at w bytes ≡ Ok (z, rest) → FitsSigned w z × (bytes ≡ signed w z ++ rest)
unfolding signed signed_at
signed_taken w wide bytes z rest are e =
    let b = bind_ok (bytes_at (byte_len w) bytes) (λ front. Ok (cast_signed w (from_be_bytes w front.0), front.1)) (z, rest) e in
    let front = b.0.0 in
    let t = bytes_taken (byte_len w) bytes front b.0.1 b.1 in
    let are_front : AreBytes front = AreBytes-front front b.0.1 (subst AreBytes t.1 are) in
    let below = wide.below front are_front in
    let spelled : to_be_bytes w (cast_unsigned w (cast_signed w (from_be_bytes w front))) ≡ front = ap (to_be_bytes w) (of_z-to_z w (from_be_bytes w front) below) ∙ wide.back front t.0 are_front in
    subst (λ (p : ℤ × List ℕ). FitsSigned w p.0 × (bytes ≡ to_be_bytes w (cast_unsigned w p.0) ++ p.1)) (ok_is (cast_signed w (from_be_bytes w front), b.0.1) (z, rest) b.2) (sfits_to_z (Fits-of_lt below), t.1 ∙ ap (λ (x : List ℕ). x ++ b.0.1) (sym spelled))

signed_again : (w : Width) → IsWide w → (z : ℤ) (rest : List ℕ) → FitsSigned w z → signed_at w (signed w z ++ rest) ≡ Ok (z, rest)
unfolding signed signed_at
signed_again w wide z rest fits =
    let below : cast_unsigned w z < 2 ^ bits w = Fits-lt-pow (Fits-of_z fits) in
    rw (bytes_again (byte_len w) (to_be_bytes w (cast_unsigned w z)) rest (wide.len (cast_unsigned w z)), wide.again (cast_unsigned w z) below, to_z-of_z w z fits) refl

pub signed_is_field : (w : Width) → IsWide w → IsField (FitsSigned w) (signed w) (signed_at w)
signed_is_field w wide = record { taken = signed_taken w wide; again = signed_again w wide }
