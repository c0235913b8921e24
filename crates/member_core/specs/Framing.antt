-- How a request is framed.
use Rattle.std.specs.Prelude.{◌≤◌, ℕ, List, length}
use Rattle.kip_msgs.specs.Values.{RequestValue}
use Rattle.kip_msgs.specs.Spelling.{SpellsRequest}
use Rattle.group_types.specs.Limits.{LARGEST_BODY}
use Rattle.group_types.specs.Frames.{IsFrame}

-- the frame of a request whose body isn't too large
pub record IsRequestFrame (v : RequestValue) (frame : List ℕ) : Type 0 where
  pub body : List ℕ
  pub spells : SpellsRequest v body
  pub framed : IsFrame body frame
  pub limit : length body ≤ LARGEST_BODY
