-- Epochs of members.
use Rattle.std.specs.Prelude.{ℕ, ℤ, pos, Bool, false, Option, Some, None}
use Rattle.std.specs.Ordering.{int_eq}
use Rattle.group_types.specs.declared.epoch.Epoch.{Epoch}
use Rattle.group_types.specs.declared.epoch.Epoch.TheVariants.{At, Away}

-- KIP-848, "Member Epoch": whether an epoch is the number; that of a static member that is away equals nothing
abbrev pub is_at : Epoch → ℤ → Bool
is_at (At epoch) number = int_eq (pos epoch) number
is_at Away number = false

-- the number of an epoch, or none while the member is away
abbrev pub number_of : Epoch → Option ℕ
number_of (At epoch) = Some epoch
number_of Away = None
