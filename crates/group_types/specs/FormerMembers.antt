-- Who left is remembered for a while (ours), so that a late heartbeat of a former member isn't taken for a new one's.
use Rattle.std.specs.Prelude.{◌≡◌, ℕ, ◌≤◌, length, Some, None}
use Rattle.std.specs.FinMap as finite
use Rattle.group_types.specs.declared.stamp.Stamp.{Stamp}
use Rattle.group_types.specs.Limits.{MOST_PAST_MEMBERS}
use Rattle.group_types.specs.Text.{Text}
use Rattle.group_types.specs.Request.{LEAVES_AT}
use Rattle.group_types.specs.Group.{Record, Group}
use Rattle.group_types.specs.Members.{past_stamp}
use Rattle.group_types.specs.Tick.{removed_by_tick, ticked}
use Rattle.group_types.specs.HeartbeatStep.{Answer, Arrival, HeartbeatStep}
use Rattle.group_types.specs.Fencing.{IsAcceptedAs}
use Rattle.group_types.specs.Sound.{IsSound}

-- the id has no record any more, and is remembered with the stamp; of all former members no more than 4,096 are
pub record IsFormer (g : Group) (m : Text) (last : Stamp) : Type 0 where
  pub left : finite.get g.records m ≡ None
  pub remembered : past_stamp g.past m ≡ Some last
  pub few : length g.past ≤ MOST_PAST_MEMBERS

-- who leaves is remembered with the stamp of the heartbeat by which it left
abbrev pub LeaversAreRemembered : Type 0
LeaversAreRemembered =
    (g : Group) (a : Arrival) (m : Text) (answer : Answer) (new : Group)
    → IsSound g → HeartbeatStep g a answer new → a.heartbeat.epoch ≡ LEAVES_AT → IsAcceptedAs m answer
    → IsFormer new m a.stamp

-- Whom a tick takes from the group is remembered with the stamp of its last accepted heartbeat, where the tick takes
-- no more than can be remembered.
abbrev pub TheDueAreRemembered : Type 0
TheDueAreRemembered =
    (g : Group) (moment : ℕ) (m : Text) (r : Record)
    → IsSound g → removed_by_tick g moment ≤ MOST_PAST_MEMBERS
    → finite.get g.records m ≡ Some r → finite.get (ticked g moment).records m ≡ None
    → IsFormer (ticked g moment) m r.stamp
