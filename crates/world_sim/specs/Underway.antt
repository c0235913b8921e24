-- Rounds that are being made: in each of their turns nothing is refused but a beat that is too large.
use Rattle.std.specs.Prelude.{◌≡◌, ℕ, ◌<◌, true, length, Some}
use Rattle.kip_msgs.specs.Values.{HeartbeatReplyValue}
use Rattle.member_core.specs.Client.{Client, State}
use Rattle.member_core.specs.Asking.{Beat, Full, may_ask}
use Rattle.world_sim.specs.World.{World, numbered}
use Rattle.world_sim.specs.Acts.{ActStep, Asks, Deliver, Take, Outcome, IsReplied, IsSent, Is}
use Rattle.world_sim.specs.Reached.{IsReached}
use Rattle.world_sim.specs.Rounds.{ComesTo, IsHeard, Rounds}
use Rattle.world_sim.specs.Convergence.{CanSettle}

-- The client may ask for a full beat. Whatever comes of its delivery is a reply, and whatever comes of that
-- reply is that the client takes it.
pub record TurnGoes (w : World) (n : ℕ) : Type 0 where
  pub client : Client
  pub is_client : numbered w.clients n ≡ Some client
  pub may : may_ask client (Beat Full) ≡ true
  pub answered : (request : ℕ) (sent heard : World) (outcome : Outcome) → ActStep w (Asks n (Beat Full)) (IsSent request) sent
      → ActStep sent (Deliver request) outcome heard → (reply : ℕ) × (said : HeartbeatReplyValue) × (outcome ≡ IsReplied reply said)
  pub taken : (heard told : World) (outcome : Outcome) (is : IsHeard w n heard) → ActStep heard (Take is.reply) outcome told → (state : State) × (outcome ≡ Is state)

-- in a world that acts lead to, and that can settle, three rounds can be made
abbrev pub RoundsGo : World → Type 0
RoundsGo first = CanSettle first → (n : ℕ) (w : World) → ComesTo first n w → TurnGoes w n

-- nobody comes or goes while rounds are made
abbrev pub RoundsKeepClients : World → Type 0
RoundsKeepClients first = CanSettle first → (rounds : ℕ) (w : World) → rounds < 3 → Rounds rounds first w → length w.clients ≡ length first.clients

-- The turns of the three rounds have been made, in a world that could settle, up to one of client `n`, which is the next.
pub record IsUnderway (w : World) (n : ℕ) : Type 0 where
  pub first : World
  pub reached : IsReached first
  pub can : CanSettle first
  pub comes : ComesTo first n w
  pub now : IsReached w

-- in its turn the client has sent its beat
pub record HasBegun (sent : World) (n : ℕ) : Type 0 where
  pub before : World
  pub underway : IsUnderway before n
  pub sends : ActStep before (Asks n (Beat Full)) (IsSent (length sent.requests)) sent

-- fewer than three rounds have been made in a world that can settle
pub record IsBetween (w : World) : Type 0 where
  pub first : World
  pub reached : IsReached first
  pub can : CanSettle first
  pub rounds : ℕ
  pub below : rounds < 3
  pub made : Rounds rounds first w
  pub now : IsReached w
