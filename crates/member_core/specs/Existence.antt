-- That a member's calls have an outcome.
use Rattle.std.specs.Prelude.{◌≡◌, ℕ, pos, Bool, true, false, List, FitsSigned}
use Rattle.std.specs.Int.{w32}
use Rattle.flex_wire.specs.Laws.{AreBytes}
use Rattle.flex_wire.specs.Spelling.{FitsNullableText, FitsUuid}
use Rattle.group_types.specs.declared.partition.Partition.{Partition}
use Rattle.group_types.specs.Sets.{has}
use Rattle.member_core.specs.Settings.{FitsSettings}
use Rattle.member_core.specs.Client.{Client}
use Rattle.member_core.specs.Asking.{Ask, Asks, may_ask, request_for}
use Rattle.member_core.specs.Refusing.{is_too_large}
use Rattle.member_core.specs.Taking.{Takes}

-- A member that can say what it knows: each text, number and partition that a request may name has a spelling. A member's types
-- and limits keep it so: its texts are texts, its epoch was read as an INT32, and its partitions were read from assignments.
pub record CanSay (c : Client) : Type 0 where
  pub settings : FitsSettings c.settings
  pub id : FitsNullableText c.id
  pub epoch : FitsSigned w32 (pos c.epoch)
  pub own : (p : Partition) → has c.own p ≡ true → FitsUuid p.topic × FitsSigned w32 p.index

-- what a member may ask for it asks, with one request, where that isn't too large
abbrev pub AsksAreMade : Type 0
AsksAreMade =
    (c : Client) (ask : Ask) → CanSay c → may_ask c ask ≡ true → is_too_large (request_for c ask) ≡ false
    → (body : List ℕ) × (new : Client) × Asks c ask body new

-- whatever bytes a member is given, it takes them or leaves them
abbrev pub RepliesHaveAnOutcome : Type 0
RepliesHaveAnOutcome = (c : Client) (body : List ℕ) → AreBytes body → (taken : Bool) × (new : Client) × Takes c body taken new
