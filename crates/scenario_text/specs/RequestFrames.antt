-- Which bytes are a frame within the limits.
use Rattle.std.specs.Prelude.{ℕ, List}
use Rattle.group_types.specs.Frames.{IsBody, IsFrame}

-- a frame whose body has a size that a body may have
pub record IsFrameWithinLimits (body frame : List ℕ) : Type 0 where
  pub framed : IsFrame body frame
  pub is_body : IsBody body
