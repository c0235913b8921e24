-- What the code's client is as one of the client machine, and what it may be asked.
use Rattle.std.specs.Prelude.{◌≡◌, ℕ, Bool, true, false, IsTrue, Vec, Ok, Err, Result}
use Rattle.std.specs.declared.alloc.Global.{Global}
use Rattle.member_core.specs.Client.{Client, State, IsOutside, IsSteady, IsReleasing, IsGone, state_of}
use Rattle.member_core.specs.Asking as asking
use Rattle.member_core.specs.Asking.{Ask, may_ask, request_for}
use Rattle.member_core.specs.Kinds.{fullness, quit_ask}
use Rattle.member_core.specs.Refusing.{Sends, is_too_large}
use Rattle.world_sim.specs.declared.act.Ask as code
use Rattle.world_sim.specs.declared.act.Ask.TheVariants as asks
use Rattle.world_sim.specs.declared.state.ClientState.{ClientState}
use Rattle.world_sim.specs.declared.state.ClientState.TheVariants as states
use Rattle.world_sim.specs.declared.fault.WorldFault.{WorldFault}
use Rattle.world_sim.specs.declared.fault.WorldFault.TheVariants.{NoSuchClient, NoSuchMessage, WrongState, NoMemory, TooLarge, Forgotten}
use Rattle.world_sim.specs.declared.standing.Standing.{Standing}
use Rattle.world_sim.specs.declared.standing.Standing.TheVariants.{Outside, Steady, Releasing, Gone, Joining, BeatingSteady, BeatingReleasing}

abbrev pub client_of : Standing → Client
client_of (Outside m) = m
client_of (Steady m) = m
client_of (Releasing m) = m
client_of (Gone m) = m
client_of (Joining m) = m
client_of (BeatingSteady m) = m
client_of (BeatingReleasing m) = m

-- the client is in the state, and waits or doesn't
abbrev pub Is : Client → State → Bool → Type 0
Is c state waits = (state_of c ≡ state) × (c.waits ≡ waits)

-- what the member's type says
abbrev pub HasState : Standing → Type 0
HasState (Outside m) = Is m IsOutside false
HasState (Steady m) = Is m IsSteady false
HasState (Releasing m) = Is m IsReleasing false
HasState (Gone m) = Is m IsGone false
HasState (Joining m) = Is m IsOutside true
HasState (BeatingSteady m) = Is m IsSteady true
HasState (BeatingReleasing m) = Is m IsReleasing true

abbrev pub state_value : ClientState → State
state_value states.Outside = IsOutside
state_value states.Steady = IsSteady
state_value states.Releasing = IsReleasing
state_value states.Gone = IsGone

abbrev pub ask_value : code.Ask → Ask
ask_value asks.Join = asking.Join
ask_value (asks.Beat kind) = asking.Beat (fullness kind)
ask_value (asks.Quit quit) = quit_ask quit

-- why a client doesn't ask
abbrev pub CannotAsk : Client → Ask → WorldFault → Type 0
CannotAsk c ask NoSuchClient = ⊥
CannotAsk c ask NoSuchMessage = ⊥
CannotAsk c ask WrongState = may_ask c ask ≡ false
CannotAsk c ask NoMemory = Unit {0}
CannotAsk c ask TooLarge = (may_ask c ask ≡ true) × IsTrue (is_too_large (request_for c ask))
CannotAsk c ask Forgotten = ⊥

-- the client asks, and this is the frame; or it is as it was, and this is why
abbrev pub Asked : Client → Ask → Result (Vec ℕ Global) WorldFault → Client → Type 0
Asked c ask (Ok frame) new = Sends c ask frame.items new
Asked c ask (Err fault) new = CannotAsk c ask fault × (new ≡ c)
