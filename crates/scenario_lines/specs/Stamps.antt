-- The stamps of request lines.
use Rattle.std.specs.Prelude.{ℕ, Option, Some, None}
use Rattle.group_types.specs.declared.stamp.Stamp.{Stamp}

-- the stamp that was given, else the number of the request on the connection 1
abbrev pub stamp_of : Option Stamp → ℕ → Stamp
stamp_of (Some stamp) number = stamp
stamp_of None number = record { connection = 1; frame = number }
