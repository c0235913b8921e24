-- Stamps: where and when a frame came in. They are ours: by them a late repeat is told from a new heartbeat.
use Rattle.std.specs.declared.cmp.Ordering.{Ordering}
use Rattle.std.specs.Ordering.{nat_cmp, ordering_then}
use Rattle.group_types.specs.declared.stamp.Stamp.{Stamp}

-- by the number of the connection, then by the number of the frame on it
abbrev pub stamp_cmp : Stamp → Stamp → Ordering
stamp_cmp s t = ordering_then (nat_cmp s.connection t.connection) (nat_cmp s.frame t.frame)
