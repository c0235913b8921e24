-- The frames of a stream of bytes (Kafka protocol guide, "Protocol"). The limits of a body are ours.
use Rattle.std.specs.Prelude.{◌≡◌, ◌⊎◌, ℕ, ◌<◌, ℤ, pos, ◌<ℤ◌, List, ◌++◌, length, All, FitsSigned}
use Rattle.std.specs.Int.{w32}
use Rattle.std.specs.List.{flat_map}
use Rattle.flex_wire.specs.Spelling.{int32}
use Rattle.group_types.specs.Limits.{SMALLEST_BODY, LARGEST_BODY}
use Rattle.group_types.specs.Frames.{frame_of, IsBody}

-- the bytes begin with a whole frame, whose size is in range
pub record BeginsWithFrame (bytes : List ℕ) : Type 0 where
  pub body : List ℕ
  pub rest : List ℕ
  pub is_body : IsBody body
  pub whole : bytes ≡ frame_of body ++ rest

-- the bytes begin with a size that no body may have
pub record BeginsWithRefusedSize (bytes : List ℕ) : Type 0 where
  pub size : ℤ
  pub rest : List ℕ
  pub fits : FitsSigned w32 size
  pub refused : (size <ℤ pos SMALLEST_BODY) ⊎ (pos LARGEST_BODY <ℤ size)
  pub whole : bytes ≡ int32 size ++ rest

-- the bytes are these frames, and then less than a whole one
pub record Framing (bytes : List ℕ) (bodies : List (List ℕ)) (rest : List ℕ) : Type 0 where
  pub whole : bytes ≡ flat_map frame_of bodies ++ rest
  pub each : All IsBody bodies
  pub partial : ¬ BeginsWithFrame rest

-- the bytes are a part of a frame: some, but no whole frame and no refused size
pub record IsInsideFrame (bytes : List ℕ) : Type 0 where
  pub some : 0 < length bytes
  pub not_whole : ¬ BeginsWithFrame bytes
  pub not_refused : ¬ BeginsWithRefusedSize bytes

-- two readings of the same bytes have the same frames and the same rest
abbrev pub FramingIsOne : Type 0
FramingIsOne =
    (bytes rest other : List ℕ) (bodies others : List (List ℕ)) → Framing bytes bodies rest → Framing bytes others other
    → (bodies ≡ others) × (rest ≡ other)
