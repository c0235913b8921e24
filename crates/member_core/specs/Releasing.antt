-- How a member gives up what isn't its any more (KIP-848, "Reconciliation of the group": the first phase).
use Rattle.std.specs.Prelude.{Bool, true, false, not, ◌&&◌}
use Rattle.group_types.specs.declared.partition.Partition.{Partition}
use Rattle.group_types.specs.Sets.{has, without}
use Rattle.member_core.specs.Client.{Client, State, IsOutside, IsSteady, IsReleasing, IsGone, state_of}

-- a partition that the member isn't shown goes out of what it owns; nothing else does
abbrev pub released_if : Bool → Client → Partition → Client
released_if true c p = c
released_if false c p = record c { own = without c.own p }

abbrev pub after_release : Client → Partition → Client
after_release c p = released_if (has c.shown p) c p

abbrev pub is_releasing : State → Bool
is_releasing IsOutside = false
is_releasing IsSteady = false
is_releasing IsReleasing = true
is_releasing IsGone = false

-- it doesn't wait, and has something to release
abbrev pub may_release : Client → Bool
may_release c = not c.waits && is_releasing (state_of c)
