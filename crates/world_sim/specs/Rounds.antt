-- Rounds in which no message is lost, and what they leave (KIP-848, "Reconciliation of the group").
use Rattle.std.specs.Prelude.{◌≡◌, ℕ, zero, suc, ◌<◌, List, length, map, Some}
use Rattle.group_types.specs.Sets.{in_order}
use Rattle.kip_msgs.specs.Values.{HeartbeatReplyValue}
use Rattle.member_core.specs.Client.{Client, State, to_release}
use Rattle.member_core.specs.Asking.{Beat, Full}
use Rattle.world_sim.specs.World.{World, numbered}
use Rattle.world_sim.specs.Acts.{Asks, GivesUp, Deliver, Take, Release, Outcome, IsSent, IsReplied, Is, ActStep, Run}
use Rattle.world_sim.specs.Acting.{IsTooLarge}

-- ---- whole rounds

-- a client's full heartbeat is delivered
pub record IsHeard (w : World) (n : ℕ) (new : World) : Type 0 where
  pub sent : World
  pub request : ℕ
  pub sends : ActStep w (Asks n (Beat Full)) (IsSent request) sent
  pub reply : ℕ
  pub said : HeartbeatReplyValue
  pub delivers : ActStep sent (Deliver request) (IsReplied reply said) new

-- .. and its reply is taken
pub record IsTold (w : World) (n : ℕ) (new : World) : Type 0 where
  pub heard : World
  pub is_heard : IsHeard w n heard
  pub state : State
  pub takes : ActStep heard (Take is_heard.reply) (Is state) new

-- .. and the client releases all that it isn't shown
pub record HasTurn (w : World) (n : ℕ) (new : World) : Type 0 where
  pub told : World
  pub is_told : IsTold w n told
  pub client : Client
  pub is_client : numbered told.clients n ≡ Some client
  pub states : List Outcome
  pub releases : Run told (map (Release n) (in_order (to_release client))) states new

-- the turns of a number of clients, one after the other, from client `n` on
abbrev pub TurnsFrom : ℕ → ℕ → World → World → Type 0
TurnsFrom n zero w new = new ≡ w
TurnsFrom n (suc clients) w new = (middle : World) × HasTurn w n middle × TurnsFrom (suc n) clients middle new

abbrev pub Round : World → World → Type 0
Round w new = TurnsFrom 1 (length w.clients) w new

abbrev pub Rounds : ℕ → World → World → Type 0
Rounds zero w new = new ≡ w
Rounds (suc rounds) w new = (middle : World) × Round w middle × Rounds rounds middle new

-- what settling does
abbrev pub Settles : World → World → Type 0
Settles w new = Rounds 3 w new

-- ---- rounds that a fault stops

-- `rounds` rounds were made, and of the next one the turns of the clients before client `n`
pub record ComesTo (w : World) (n : ℕ) (new : World) : Type 0 where
  pub rounds : ℕ
  pub below : rounds < 3
  pub round : World
  pub made : Rounds rounds w round
  pub turns : ℕ
  pub client : n ≡ suc turns
  pub is_client : turns < length w.clients
  pub turned : TurnsFrom 1 turns round new

-- the next client's heartbeat is too large, and nothing more happens
pub record StopsTooLarge (w new : World) : Type 0 where
  pub client : ℕ
  pub comes : ComesTo w client new
  pub refused : IsTooLarge new (Asks client (Beat Full))

-- What is left where memory runs out in the turn of a client: the turn went so far. A client that waits has given up.
pub data LeavesTurn (w : World) (n : ℕ) (new : World) : Type 0 where
  BeforeSending : new ≡ w → LeavesTurn w n new
  BeforeDelivery : (request : ℕ) (sent : World) (state : State) → ActStep w (Asks n (Beat Full)) (IsSent request) sent
      → ActStep sent (GivesUp n) (Is state) new → LeavesTurn w n new
  BeforeTaking : (heard : World) (state : State) → IsHeard w n heard → ActStep heard (GivesUp n) (Is state) new → LeavesTurn w n new
  BeforeReleasing : IsTold w n new → LeavesTurn w n new

pub record StopsShort (w new : World) : Type 0 where
  pub client : ℕ
  pub at : World
  pub comes : ComesTo w client at
  pub leaves : LeavesTurn at client new
