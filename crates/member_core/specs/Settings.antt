-- What a member of a consumer group is made with, and keeps.
use Rattle.std.specs.Prelude.{ℕ, pos, List, Option, FitsSigned}
use Rattle.std.specs.Int.{w32}
use Rattle.std.specs.List.{All}
use Rattle.flex_wire.specs.Spelling.{FitsText, FitsNullableText}
use Rattle.group_types.specs.Text.{Text}

pub record Settings : Type 0 where
  pub group : Text
  pub instance : Option Text  -- of a static member
  pub rack : Option Text
  pub rebalance_timeout : ℕ  -- in milliseconds
  pub names : List Text  -- the topics that it subscribes
  pub assignor : Option Text

-- settings that a request can say: each text has a spelling, and the timeout is an INT32
pub record FitsSettings (s : Settings) : Type 0 where
  pub group : FitsText s.group
  pub instance : FitsNullableText s.instance
  pub rack : FitsNullableText s.rack
  pub rebalance_timeout : FitsSigned w32 (pos s.rebalance_timeout)
  pub names : All FitsText s.names
  pub assignor : FitsNullableText s.assignor
