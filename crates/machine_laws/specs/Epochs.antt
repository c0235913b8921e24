-- KIP-848, "Group Epoch": by how much a leave and a tick raise it.
use Rattle.std.specs.Prelude.{◌≡◌, ℕ, ◌+◌, ◌<◌, ◌≤◌, negsuc, max, Some, None}
use Rattle.std.specs.FinMap as finite
use Rattle.group_types.specs.Text.{Text}
use Rattle.group_types.specs.Group.{Record, Group}
use Rattle.group_types.specs.Tick.{ticked}
use Rattle.group_types.specs.HeartbeatStep.{Answer, Arrival, HeartbeatStep}
use Rattle.group_types.specs.Fencing.{IsAcceptedAs}
use Rattle.group_types.specs.Deadlines.{IsDue}
use Rattle.group_types.specs.Sound.{IsSound}

-- by one, and at the greatest INT32 not at all
pub record RisesByOne (before after : ℕ) : Type 0 where
  pub below : before < 2147483647 → after ≡ before + 1
  pub greatest : 2147483647 ≤ before → after ≡ before

-- An accepted leave raises the group epoch by one. A tick raises it once where somebody leaves, however many do, and leaves it as it was where
-- nobody is due.
pub record LeavesAndTicksRaise : Type 0 where
  pub leaves : (g : Group) (a : Arrival) (m : Text) (answer : Answer) (new : Group)
      → IsSound g → HeartbeatStep g a answer new → a.heartbeat.epoch ≡ negsuc 0 → IsAcceptedAs m answer → RisesByOne g.epoch new.epoch
  pub ticks : (g : Group) (moment : ℕ) (m : Text) (r : Record)
      → finite.get g.records m ≡ Some r → finite.get (ticked g moment).records m ≡ None → RisesByOne g.epoch (ticked g moment).epoch
  pub quiet_ticks : (g : Group) (moment : ℕ)
      → ((m : Text) (r : Record) → finite.get g.records m ≡ Some r → ¬ IsDue (max g.clock moment) r)
      → (ticked g moment).epoch ≡ g.epoch
