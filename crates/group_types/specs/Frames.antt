-- How a message stands in a stream of bytes (Kafka protocol guide, "Protocol").
use Rattle.std.specs.Prelude.{◌≡◌, ◌≤◌, ℕ, pos, List, ◌++◌, length, FitsSigned}
use Rattle.std.specs.Int.{w32}
use Rattle.flex_wire.specs.Spelling.{int32}
use Rattle.group_types.specs.Limits.{SMALLEST_BODY, LARGEST_BODY}

-- a frame is an INT32 size and a body of that many bytes
abbrev pub frame_of : List ℕ → List ℕ
frame_of body = int32 (pos (length body)) ++ body

pub record IsFrame (body frame : List ℕ) : Type 0 where
  pub size : FitsSigned w32 (pos (length body))
  pub bytes : frame ≡ frame_of body

-- the size is one that a body may have (the limits are ours)
abbrev pub IsBody : List ℕ → Type 0
IsBody body = (SMALLEST_BODY ≤ length body) × (length body ≤ LARGEST_BODY)
