-- A group's clock is the greatest moment that was used (ours).
use Rattle.std.specs.Prelude.{◌≡◌, ℕ, max}
use Rattle.group_types.specs.Text.{Text}
use Rattle.group_types.specs.Group.{Group}
use Rattle.group_types.specs.Tick.{ticked}
use Rattle.group_types.specs.Fencing.{IsAcceptedAs}
use Rattle.group_types.specs.HeartbeatStep.{Answer, Arrival, HeartbeatStep}
use Rattle.group_types.specs.Sound.{IsSound}

-- an accepted heartbeat, of whatever kind, and a tick leave the clock at the greater of itself and the moment
pub record ClocksGoOn : Type 0 where
  pub heartbeats : (g : Group) (a : Arrival) (m : Text) (answer : Answer) (new : Group)
      → IsSound g → HeartbeatStep g a answer new → IsAcceptedAs m answer → new.clock ≡ max g.clock a.moment
  pub ticks : (g : Group) (moment : ℕ) → (ticked g moment).clock ≡ max g.clock moment
