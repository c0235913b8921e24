-- KIP-848, "ConsumerGroupHeartbeat API": what a request gives is stored with the member, and what it leaves out stays.
use Rattle.std.specs.Prelude.{◌≡◌, ℕ, ◌<◌, ℤ, pos, negsuc, List, Option, Some, None}
use Rattle.std.specs.FinMap as finite
use Rattle.group_types.specs.declared.assignor_name.AssignorName.{AssignorName}
use Rattle.group_types.specs.Text.{Text}
use Rattle.group_types.specs.Sets.{of_list}
use Rattle.group_types.specs.Topics.{Names}
use Rattle.group_types.specs.AssignorName.{assignor_named}
use Rattle.group_types.specs.Request.{Heartbeat}
use Rattle.group_types.specs.Group.{Record, Group}
use Rattle.group_types.specs.Members.{HasInstance}
use Rattle.group_types.specs.Join.{blank_record}
use Rattle.group_types.specs.HeartbeatStep.{Answer, Arrival, HeartbeatStep}
use Rattle.group_types.specs.Fencing.{IsAcceptedAs}
use Rattle.group_types.specs.Sound.{IsSound}

-- the field is what the request gives, and else what it was
abbrev pub IsGiven : {X : Type 0} → Option X → Option X → Option X → Type 0
IsGiven (Some given) before after = after ≡ Some given
IsGiven None before after = after ≡ before

abbrev pub AreNamesGiven : Option (List Text) → Names → Names → Type 0
AreNamesGiven (Some given) before after = after ≡ of_list given
AreNamesGiven None before after = after ≡ before

-- an assignor is given by its name
abbrev pub IsAssignorGiven : Option Text → Option AssignorName → Option AssignorName → Type 0
IsAssignorGiven (Some given) before after = (name : AssignorName) × (assignor_named given ≡ Some name) × (after ≡ Some name)
IsAssignorGiven None before after = after ≡ before

-- -1 gives no timeout
abbrev pub IsTimeoutGiven : ℤ → ℕ → ℕ → Type 0
IsTimeoutGiven (pos given) before after = after ≡ given
IsTimeoutGiven (negsuc n) before after = after ≡ before

-- a join says which instance the member is, or that it is none; a beat leaves that as it is
abbrev pub IsInstanceGiven : ℤ → Option Text → Option Text → Option Text → Type 0
IsInstanceGiven epoch given before after =
    (epoch ≡ pos 0 → after ≡ given) × ((n : ℕ) → epoch ≡ pos n → 0 < n → after ≡ before)

pub record StoresGiven (q : Heartbeat) (before after : Record) : Type 0 where
  pub timeout : IsTimeoutGiven q.rebalance_timeout before.rebalance_timeout after.rebalance_timeout
  pub names : AreNamesGiven q.names before.names after.names
  pub assignor : IsAssignorGiven q.assignor before.assignor after.assignor
  pub rack : IsGiven q.rack before.rack after.rack
  pub instance : IsInstanceGiven q.epoch q.instance before.instance after.instance

-- What the member's record was before: its own; where it had none, that of the other member whose instance it takes over; or a
-- blank one, of a new member.
pub data IsRecordBefore (g : Group) (q : Heartbeat) (m : Text) : Record → Type 0 where
  own : (r : Record) → finite.get g.records m ≡ Some r → IsRecordBefore g q m r
  other : (n : Text) (instance : Text) (r : Record) → finite.get g.records m ≡ None → q.instance ≡ Some instance
      → HasInstance g.records n instance → finite.get g.records n ≡ Some r → IsRecordBefore g q m r
  none : finite.get g.records m ≡ None → IsRecordBefore g q m blank_record

-- of the accepted joins and beats
abbrev pub RequestsAreStored : Type 0
RequestsAreStored =
    (g : Group) (a : Arrival) (m : Text) (answer : Answer) (new : Group) (epoch : ℕ) (after : Record)
    → IsSound g → HeartbeatStep g a answer new → a.heartbeat.epoch ≡ pos epoch → IsAcceptedAs m answer
    → finite.get new.records m ≡ Some after
    → (before : Record) × IsRecordBefore g a.heartbeat m before × StoresGiven a.heartbeat before after
