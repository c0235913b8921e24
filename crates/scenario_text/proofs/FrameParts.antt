-- A frame as its first four bytes and the bytes after them.
use Rattle.std.proofs.Common.{◌≡◌, ℕ, zero, suc, ◌+◌, ◌^◌, ◌<◌, ◌≤◌, List, [], ◌∷◌, ◌++◌, length, take, drop, get_or, refl, sym, ap, ◌∙◌, arith, length-append, take-append-drop}
use Rattle.std.specs.Int.{w32, to_be_bytes, from_be_bytes}
use Rattle.std.specs.Prelude.{pos}
use Rattle.std.proofs.lemmas.List.{take_at, length-take-le}
use Rattle.std.proofs.lemmas.Nat.{be_bytes_4, from_be_bytes-to_be_bytes_4}
use Rattle.flex_wire.specs.Spelling.{int32, signed}
use Rattle.group_types.specs.Frames.{IsFrame}
use Rattle.group_types.proofs.FrameLemmas.{frame_body}

int32-pos : (n : ℕ) → int32 (pos n) ≡ to_be_bytes w32 n
unfolding signed
int32-pos n = refl

length-int32 : (n : ℕ) → length (int32 (pos n)) ≡ 4
unfolding signed
length-int32 n = refl

-- a frame has its four bytes of size
pub frame_holds_size : (body frame : List ℕ) → IsFrame body frame → 4 ≤ length frame
frame_holds_size body frame framed =
    omega (arith, ap length framed.bytes, length-append (int32 (pos (length body))) body, length-int32 (length body))

-- what a frame's four first bytes and the rest are
pub frame_parts : (body frame : List ℕ) → IsFrame body frame → length body < 2 ^ 32
    → (from_be_bytes w32 (take 4 frame) ≡ length body) × (drop 4 frame ≡ body)
frame_parts body frame framed small =
    let head = int32 (pos (length body)) in
    let cut = ap (take 4) framed.bytes ∙ take_at head body 4 (length-int32 (length body)) ∙ int32-pos (length body) in (
      ap (from_be_bytes w32) cut ∙ from_be_bytes-to_be_bytes_4 (length body) small,
      frame_body body frame framed,
    )

bytes_of_take : (n : ℕ) (bytes : List ℕ) → ((i : ℕ) → get_or bytes i 0 < 256) → (i : ℕ) → get_or (take n bytes) i 0 < 256
bytes_of_take zero bytes are i = omega arith
bytes_of_take (suc n) [] are i = omega arith
bytes_of_take (suc n) (byte ∷ bytes) are zero = are 0
bytes_of_take (suc n) (byte ∷ bytes) are (suc i) = bytes_of_take n bytes (λ j. are (suc j)) i

-- four bytes that are the number of the bytes after them make a frame
pub frame_of_parts : (frame head body : List ℕ) (size : ℕ) → ((i : ℕ) → get_or frame i 0 < 256)
    → head ≡ take 4 frame → body ≡ drop 4 frame → length body + 4 ≡ length frame
    → size ≡ from_be_bytes w32 head → size ≡ length body → length body < 2 ^ 31 → IsFrame body frame
frame_of_parts frame head body size are heads bodies long value right small =
    let four : length (take 4 frame) ≡ 4 = length-take-le 4 frame (omega arith) in
    let four' : length head ≡ 4 = ap length heads ∙ four in
    let bytes : (i : ℕ) → get_or head i 0 < 256 = λ i. rw heads (bytes_of_take 4 frame are i) in
    let spelled : to_be_bytes w32 size ≡ head = be_bytes_4 head size four' bytes value in
    let whole : frame ≡ to_be_bytes w32 size ++ body =
    sym (take-append-drop 4 frame) ∙ ap (λ l. l ++ drop 4 frame) (sym heads ∙ sym spelled) ∙ ap (λ l. to_be_bytes w32 size ++ l) (sym bodies) in
    record {
      size = record { sfits = small };
      bytes = whole ∙ ap (λ n. to_be_bytes w32 n ++ body) right ∙ ap (λ l. l ++ body) (sym (int32-pos (length body)));
    }
