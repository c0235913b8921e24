-- Why a member doesn't make a request, and what it does where it does.
use Rattle.std.specs.Prelude.{◌≡◌, ◌≤◌, ◌⊎◌, ℕ, Bool, true, false, nat_lt, if◌then◌else◌, List, [], length, Option, Some, None, IfSome}
use Rattle.kip_msgs.specs.Values.{RequestValue}
use Rattle.kip_msgs.specs.Spelling.{request_body}
use Rattle.group_types.specs.Text.{Text}
use Rattle.group_types.specs.Limits.{LARGEST_BODY}
use Rattle.member_core.specs.Limits.{GREATEST_NUMBER}
use Rattle.member_core.specs.Client.{Place, Client}
use Rattle.member_core.specs.Asking.{Ask, Join, Beat, Leave, GoAway, request_for, may_ask_at, Asks}
use Rattle.group_types.specs.Frames.{IsFrame}
use Rattle.member_core.specs.declared.fault.BeatFault.{BeatFault}
use Rattle.member_core.specs.declared.fault.BeatFault.TheVariants.{NoInstance, TooLarge, Spent, NoMemory}

abbrev pub beat_fault_number : BeatFault → ℕ
beat_fault_number NoInstance = 1
beat_fault_number TooLarge = 2
beat_fault_number Spent = 3
beat_fault_number NoMemory = 4

-- whether the ask is for one with an instance alone
abbrev pub wants_instance : Ask → Bool
wants_instance Join = false
wants_instance (Beat fullness) = false
wants_instance Leave = false
wants_instance GoAway = true

-- whether the body of the request has more bytes than a frame may have
abbrev pub is_too_large : RequestValue → Bool
is_too_large v = nat_lt LARGEST_BODY (length (request_body v))

abbrev pub size_refusal : RequestValue → Option BeatFault
size_refusal v = if is_too_large v then Some TooLarge else None

abbrev pub number_refusal : Client → Option BeatFault
number_refusal c = if nat_lt c.number GREATEST_NUMBER then None else Some Spent

abbrev pub instance_refusal : Bool → Option Text → Option BeatFault
instance_refusal true None = Some NoInstance
instance_refusal true (Some instance) = None
instance_refusal false instance = None

-- the first of two that is in the way
abbrev pub first_refusal : Option BeatFault → Option BeatFault → Option BeatFault
first_refusal None other = other
first_refusal (Some fault) other = Some fault

-- what is in the way before the body is made
abbrev pub early_refusal : Client → Ask → Option BeatFault
early_refusal c ask = first_refusal (instance_refusal (wants_instance ask) c.settings.instance) (number_refusal c)

-- What is in the way of a request, judged in this order: no instance, no number left, the size.
abbrev pub refusal_of : Client → Ask → Option BeatFault
refusal_of c ask = first_refusal (early_refusal c ask) (size_refusal (request_for c ask))

-- whether a fault is seen before any memory is taken
abbrev pub is_seen_first : BeatFault → Bool
is_seen_first NoInstance = true
is_seen_first TooLarge = false
is_seen_first Spent = true
is_seen_first NoMemory = false

-- A fault is what is in the way; or it is want of memory, and then nothing is in the way that is seen before any memory is taken.
abbrev pub IsFault : Option BeatFault → BeatFault → Type 0
IsFault refusal fault = (refusal ≡ Some fault) ⊎ ((fault ≡ NoMemory) × IfSome refusal (λ other. is_seen_first other ≡ false))

-- The member makes the request, whose frame this is; nothing was in the way.
pub record Sends (c : Client) (ask : Ask) (frame : List ℕ) (new : Client) : Type 0 where
  pub body : List ℕ
  pub asks : Asks c ask body new
  pub framed : IsFrame body frame
  pub limit : length body ≤ LARGEST_BODY

-- it stands where that can be asked, if its instance allows it
abbrev pub stands_to : Place → Ask → Bool
stands_to place ask = may_ask_at place ask (Some [])
