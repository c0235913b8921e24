-- What settling leaves.
use Rattle.std.specs.Prelude.{◌≡◌, ◌⊎◌, ℕ, suc, ◌<◌, List, length, map, Some, Ok, Err, Result}
use Rattle.std.specs.declared.alloc.AllocError.{AllocError}
use Rattle.kip_msgs.specs.Values.{HeartbeatReplyValue}
use Rattle.group_types.specs.Sets.{in_order}
use Rattle.member_core.specs.Client.{Client, State, to_release}
use Rattle.member_core.specs.Asking.{Beat, Full}
use Rattle.world_sim.specs.declared.fault.WorldFault.{WorldFault}
use Rattle.world_sim.specs.declared.fault.WorldFault.TheVariants.{NoSuchClient, NoSuchMessage, WrongState, NoMemory, TooLarge, Forgotten}
use Rattle.world_sim.specs.World.{World, numbered}
use Rattle.world_sim.specs.Acts.{Asks, Deliver, Release, Take, Outcome, IsReplied, Is, ActStep, Run}
use Rattle.world_sim.specs.Acting.{IsTooLarge}
use Rattle.world_sim.specs.Rounds.{HasTurn, IsTold, LeavesTurn, Round, Settles, StopsShort, StopsTooLarge, TurnsFrom}
use Rattle.world_sim.specs.Convergence.{CanSettle}

-- The three rounds were made. Or they can't be, and nothing has changed; or a heartbeat in them is too large, or memory
-- ran out in them, and the acts before that were done.
abbrev pub IsSettling : World → Result (Unit {0}) WorldFault → World → Type 0
IsSettling w (Ok done) new = CanSettle w × Settles w new
IsSettling w (Err NoSuchClient) new = ⊥
IsSettling w (Err NoSuchMessage) new = ⊥
IsSettling w (Err WrongState) new = (¬ CanSettle w) × (new ≡ w)
IsSettling w (Err NoMemory) new = CanSettle w × StopsShort w new
IsSettling w (Err TooLarge) new = CanSettle w × StopsTooLarge w new
IsSettling w (Err Forgotten) new = ⊥

-- ---- its parts

-- A client's beat is answered, and it takes the reply. Or the beat is too large, and nothing has changed; or memory ran out.
abbrev pub IsToldBy : World → ℕ → Result (Unit {0}) WorldFault → World → Type 0
IsToldBy w n (Ok done) new = IsTold w n new
IsToldBy w n (Err NoSuchClient) new = ⊥
IsToldBy w n (Err NoSuchMessage) new = ⊥
IsToldBy w n (Err WrongState) new = ⊥
IsToldBy w n (Err NoMemory) new = LeavesTurn w n new
IsToldBy w n (Err TooLarge) new = IsTooLarge w (Asks n (Beat Full)) × (new ≡ w)
IsToldBy w n (Err Forgotten) new = ⊥

-- the same of its whole turn
abbrev pub HasTurned : World → ℕ → Result (Unit {0}) WorldFault → World → Type 0
HasTurned w n (Ok done) new = HasTurn w n new
HasTurned w n (Err NoSuchClient) new = ⊥
HasTurned w n (Err NoSuchMessage) new = ⊥
HasTurned w n (Err WrongState) new = ⊥
HasTurned w n (Err NoMemory) new = LeavesTurn w n new
HasTurned w n (Err TooLarge) new = IsTooLarge w (Asks n (Beat Full)) × (new ≡ w)
HasTurned w n (Err Forgotten) new = ⊥

-- the latest request is answered, and its sender takes the reply; or memory ran out before the one or the other
abbrev pub HasExchanged : World → Result (Unit {0}) WorldFault → World → Type 0
HasExchanged sent (Ok done) new =
    (reply : ℕ) × (said : HeartbeatReplyValue) × (heard : World) × (state : State)
    × ActStep sent (Deliver (length sent.requests)) (IsReplied reply said) heard × ActStep heard (Take reply) (Is state) new
HasExchanged sent (Err NoSuchClient) new = ⊥
HasExchanged sent (Err NoSuchMessage) new = ⊥
HasExchanged sent (Err WrongState) new = ⊥
HasExchanged sent (Err NoMemory) new =
    (new ≡ sent) ⊎ ((reply : ℕ) × (said : HeartbeatReplyValue) × ActStep sent (Deliver (length sent.requests)) (IsReplied reply said) new)
HasExchanged sent (Err TooLarge) new = ⊥
HasExchanged sent (Err Forgotten) new = ⊥

-- a client releases all that it isn't shown; where memory is short, nothing
abbrev pub HasReleased : World → ℕ → Result (Unit {0}) AllocError → World → Type 0
HasReleased w n (Ok done) new =
    (client : Client) × (numbered w.clients n ≡ Some client) × (states : List Outcome) × Run w (map (Release n) (in_order (to_release client))) states new
HasReleased w n (Err short) new = new ≡ w

-- a round is made; or after a number of its turns the next client's beat is too large, or memory runs out
abbrev pub HasRound : World → Result (Unit {0}) WorldFault → World → Type 0
HasRound w (Ok done) new = Round w new
HasRound w (Err NoSuchClient) new = ⊥
HasRound w (Err NoSuchMessage) new = ⊥
HasRound w (Err WrongState) new = ⊥
HasRound w (Err NoMemory) new = (turns : ℕ) × (at : World) × (turns < length w.clients) × TurnsFrom 1 turns w at × LeavesTurn at (suc turns) new
HasRound w (Err TooLarge) new = (turns : ℕ) × (turns < length w.clients) × TurnsFrom 1 turns w new × IsTooLarge new (Asks (suc turns) (Beat Full))
HasRound w (Err Forgotten) new = ⊥
