-- Stamps (ours): which of two heartbeats of a member is the later one.
use Rattle.std.specs.Prelude.{◌≡◌, ◌⊎◌, ◌↔◌, ◌<◌}
use Rattle.std.specs.declared.cmp.Ordering.TheVariants.{Greater}
use Rattle.group_types.specs.declared.stamp.Stamp.{Stamp}
use Rattle.group_types.specs.Stamp.{stamp_cmp}

-- the one of the later connection, and on one connection that of the later frame
abbrev pub ComesAfter : Stamp → Stamp → Type 0
ComesAfter s t = (t.connection < s.connection) ⊎ ((s.connection ≡ t.connection) × (t.frame < s.frame))

abbrev pub StampsAreOrdered : Type 0
StampsAreOrdered = (s t : Stamp) → (stamp_cmp s t ≡ Greater) ↔ ComesAfter s t
