-- The frame at the front of some bytes, and bytes that were read behind others.
use Rattle.std.proofs.Common.{◌≡◌, ℕ, ◌+◌, ◌≤◌, List, ◌++◌, length, take, drop, refl, sym, ap, ◌∙◌, arith, length-append, take-append-drop, take-add, take_at, drop_at, length-take-le, append_assoc}
use Rattle.std.proofs.Common.{ℤ, pos, negsuc, nat_abs, false, w32, to_z, of_z, true≢false}
use Rattle.std.proofs.lemmas.Int.{to_z-of_z}
use Rattle.std.proofs.lemmas.List.{take-append-le}
use Rattle.std.specs.Prelude.{FitsSigned}
use Rattle.std.proofs.lemmas.Bool.{ltb-false}
use Rattle.std.specs.List.{flat_map}
use Rattle.std.proofs.lemmas.Grind.{flat_map-append}
use lib.Signed.{lt_z}
use borrow.Rule.Slice.PartMut.{put_mid}
use Rattle.flex_wire.specs.Spelling.{int32, signed}
use Rattle.group_types.specs.Limits.{SMALLEST_BODY, LARGEST_BODY}
use Rattle.link_futures.specs.Next.{IsFront}

pub length-int32 : (z : ℤ) → length (int32 z) ≡ 4
unfolding signed
length-int32 z = refl

-- a size in range, and as many bytes behind it, are a frame
pub front_is : (bytes rest : List ℕ) (size : ℕ) → bytes ≡ int32 (pos size) ++ rest → SMALLEST_BODY ≤ size → size ≤ LARGEST_BODY → size ≤ length rest → IsFront bytes size
front_is bytes rest size e least most there =
    let behind : drop 4 bytes ≡ rest = ap (drop 4) e ∙ drop_at (int32 (pos size)) rest 4 (length-int32 (pos size)) in
    let body = take size (drop 4 bytes) in
    let long : length body ≡ size = length-take-le size (drop 4 bytes) (rw behind there) in
    let cut : rest ≡ body ++ drop size (drop 4 bytes) = sym behind ∙ sym (take-append-drop size (drop 4 bytes)) in
    record {
      whole =
          e ∙ ap (λ xs. int32 (pos size) ++ xs) cut ∙ sym (append_assoc (int32 (pos size)) body (drop size (drop 4 bytes)))
          ∙ ap (λ n. (int32 (pos n) ++ body) ++ drop size (drop 4 bytes)) (sym long);
      is_body = (omega arith, omega arith);
      there = omega (arith, ap length e, length-append (int32 (pos size)) rest, length-int32 (pos size));
    }

pub take-append_read : (front back : List ℕ) (n k : ℕ) → length front ≡ n → take (n + k) (front ++ back) ≡ front ++ take k back
take-append_read front back n k len =
    take-add n k (front ++ back) ∙ rw (take_at front back n len, drop_at front back n len) refl

-- what was read behind others, where a slice of the bytes was lent
pub take-read_behind : (all read : List ℕ) (before size count : ℕ) → before ≤ length all → count ≤ length read
    → take (before + count) (put_mid before size all read) ≡ take before all ++ take count read
take-read_behind all read before size count within fits =
    take-append_read (take before all) (read ++ drop size (drop before all)) before count (length-take-le before all within)
    ∙ ap (λ bytes. take before all ++ bytes) (take-append-le count read (drop size (drop before all)) fits)

in_range : (largest : ℕ) (z : ℤ) → lt_z z (pos 1) ≡ false → lt_z (pos largest) z ≡ false → (z ≡ pos (nat_abs z)) × (1 ≤ nat_abs z) × (nat_abs z ≤ largest)
in_range largest (pos n) least most = (refl, ltb-false n 1 least, ltb-false largest n most)
in_range largest (negsuc n) least most = absurd (true≢false least)

-- a size in range, as a number with no sign
pub sized : (largest : ℕ) (z : ℤ) → FitsSigned w32 z → lt_z (to_z w32 (of_z w32 z)) (pos 1) ≡ false → lt_z (pos largest) (to_z w32 (of_z w32 z)) ≡ false
    → (z ≡ pos (nat_abs (to_z w32 (of_z w32 z)))) × (1 ≤ nat_abs (to_z w32 (of_z w32 z))) × (nat_abs (to_z w32 (of_z w32 z)) ≤ largest)
sized largest z fits least most =
    let same = to_z-of_z w32 z fits in
    let t = in_range largest (to_z w32 (of_z w32 z)) least most in
    (sym same ∙ t.0, t.1, t.2)

-- some whole parts and a part of the next one are at the front of all
pub parts_taken : (all done bytes rest : List ℕ) (count part : ℕ) → all ≡ (done ++ bytes) ++ rest → count ≡ length done → part ≤ length bytes
    → (take (count + part) all ≡ done ++ take part bytes) × (count + part ≤ length all)
parts_taken all done bytes rest count part whole counted fits =
    let apart : all ≡ done ++ (bytes ++ rest) = whole ∙ append_assoc done bytes rest in (
      ap (take (count + part)) apart ∙ take-append_read done (bytes ++ rest) count part (sym counted)
          ∙ ap (λ xs. done ++ xs) (take-append-le part bytes rest fits),
      omega (arith, ap length apart, length-append done (bytes ++ rest), length-append bytes rest),
    )

-- what the first items give, and what the others give
pub flat_map_parts : {X A : Type 0} (f : X → List A) (xs : List X) (n : ℕ) → flat_map f xs ≡ flat_map f (take n xs) ++ flat_map f (drop n xs)
flat_map_parts f xs n = ap (flat_map f) (sym (take-append-drop n xs)) ∙ flat_map-append f (take n xs) (drop n xs)
