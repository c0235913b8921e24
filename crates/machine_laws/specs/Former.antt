-- How long a former member is remembered (ours).
use Rattle.std.specs.Prelude.{◌≡◌, ℕ, ◌+◌, ◌≤◌, ◌∷◌, ◌++◌, length, Some, None}
use Rattle.std.specs.FinMap as finite
use Rattle.group_types.specs.declared.stamp.Stamp.{Stamp}
use Rattle.group_types.specs.Text.{Text}
use Rattle.group_types.specs.Group.{Past, Group}
use Rattle.group_types.specs.Members.{past_stamp}
use Rattle.group_types.specs.Tick.{ticked, removed_by_tick}
use Rattle.group_types.specs.HeartbeatStep.{Answer, Arrival, HeartbeatStep}
use Rattle.group_types.specs.Sound.{IsSound}

-- the id left with the stamp, and then those that stand behind it, the last of them last
pub record HasLeft (g : Group) (m : Text) (last : Stamp) (since : Past) : Type 0 where
  pub earlier : Past
  pub is_past : g.past ≡ earlier ++ (m, last) ∷ since

-- A former member is remembered with its stamp after each heartbeat, unless it has joined by it, and after each tick: as long as it and those that
-- left since are no more than 4,096.
pub record FormerMembersStay : Type 0 where
  pub heartbeats : (g : Group) (a : Arrival) (answer : Answer) (new : Group) (m : Text) (last : Stamp) (since : Past)
      → IsSound g → HeartbeatStep g a answer new → HasLeft g m last since → length since + 2 ≤ 4096
      → finite.get new.records m ≡ None → past_stamp new.past m ≡ Some last
  pub ticks : (g : Group) (moment : ℕ) (m : Text) (last : Stamp) (since : Past)
      → IsSound g → HasLeft g m last since → length since + 1 + removed_by_tick g moment ≤ 4096
      → past_stamp (ticked g moment).past m ≡ Some last
