-- A frame has one body: the bytes behind the four of its size.
use Rattle.std.proofs.Common.{◌≡◌, ℕ, List, ◌++◌, length, drop, refl, sym, ap, ◌∙◌}
use Rattle.std.specs.Prelude.{ℤ, pos}
use Rattle.flex_wire.specs.Spelling.{int32, signed}
use Rattle.group_types.specs.Frames.{IsFrame}

behind_size : (size : ℤ) (body : List ℕ) → drop 4 (int32 size ++ body) ≡ body
unfolding signed
behind_size size body = refl

pub frame_body : (body frame : List ℕ) → IsFrame body frame → drop 4 frame ≡ body
frame_body body frame is = ap (λ (f : List ℕ). drop 4 f) is.bytes ∙ behind_size (pos (length body)) body

pub same_body : (body other frame : List ℕ) → IsFrame body frame → IsFrame other frame → body ≡ other
same_body body other frame one two = sym (frame_body body frame one) ∙ frame_body other frame two
