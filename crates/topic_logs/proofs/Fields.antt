-- Fields of bytes that others follow.
use Rattle.std.proofs.Common.{◌≡◌, ℕ, ◌+◌, ◌-◌, ◌≤◌, length, drop, List, ◌++◌, refl, ap, arith, length-drop, ◌<◌, ◌∙◌, get_or, pos, take, length-append}
use Rattle.std.proofs.lemmas.List.{take-append-le, drop-append-le, get_or_append_left}
use Rattle.std.proofs.Math.Seq.{take-append_seam}
use Rattle.std.specs.List.{slice_range}
use Rattle.std.specs.Int.{w16, w32, w64, from_be_bytes, cast_signed}
use Rattle.topic_logs.specs.Format.{HasSize, int16_at, int32_at, int64_at}

pub slice_range-append : (xs ys : List ℕ) (from to : ℕ) → from ≤ to → to ≤ length xs → slice_range (xs ++ ys) from to ≡ slice_range xs from to
slice_range-append xs ys from to rises within =
    let start : from ≤ length xs = omega arith in
    let fits : to - from ≤ length (drop from xs) = simp length-drop (omega arith) in
    rw (drop-append-le from xs ys start, take-append-le (to - from) (drop from xs) ys fits) refl

pub int16_at-append : (at : ℕ) (xs ys : List ℕ) → at + 2 ≤ length xs → int16_at at (xs ++ ys) ≡ int16_at at xs
unfolding int16_at
int16_at-append at xs ys within =
    ap (λ (r : List ℕ). cast_signed w16 (from_be_bytes w16 r)) (slice_range-append xs ys at (at + 2) (omega arith) within)

pub int32_at-append : (at : ℕ) (xs ys : List ℕ) → at + 4 ≤ length xs → int32_at at (xs ++ ys) ≡ int32_at at xs
unfolding int32_at
int32_at-append at xs ys within =
    ap (λ (r : List ℕ). cast_signed w32 (from_be_bytes w32 r)) (slice_range-append xs ys at (at + 4) (omega arith) within)

pub int64_at-append : (at : ℕ) (xs ys : List ℕ) → at + 8 ≤ length xs → int64_at at (xs ++ ys) ≡ int64_at at xs
unfolding int64_at
int64_at-append at xs ys within =
    ap (λ (r : List ℕ). cast_signed w64 (from_be_bytes w64 r)) (slice_range-append xs ys at (at + 8) (omega arith) within)

-- what bytes say of the batch that they begin with
pub record BeginsWith (bytes batch : List ℕ) : Type 0 where
  pub length_is : int32_at 8 bytes ≡ pos (length batch - 12)
  pub header : 61 ≤ length batch
  pub within : length batch ≤ length bytes
  pub front : take (length batch) bytes ≡ batch
  pub version : get_or bytes 16 0 ≡ get_or batch 16 0

pub BeginsWith-append : (bytes batch rest : List ℕ) → HasSize batch → bytes ≡ batch ++ rest → BeginsWith bytes batch
BeginsWith-append bytes batch rest sized is =
    let header : 61 ≤ length batch = sized.header in
    let below : 16 < length batch = omega arith in
    record {
      length_is = ap (int32_at 8) is ∙ (int32_at-append 8 batch rest (omega arith) ∙ sized.size);
      header = header;
      within = omega (arith, ap length is, length-append batch rest);
      front = ap (take (length batch)) is ∙ take-append_seam batch rest;
      version = ap (λ (xs : List ℕ). get_or xs 16 0) is ∙ get_or_append_left batch rest 0 16 below;
    }
