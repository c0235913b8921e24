-- KIP-848, "Session Management" and "Rebalance Timeout": a deadline is due at its moment, and not before.
use Rattle.std.specs.Prelude.{◌≡◌, ◌≢◌, ◌⊎◌, ℕ, ◌≤◌, pos, max, Some, None, IsTrue}
use Rattle.std.specs.FinMap as finite
use Rattle.group_types.specs.Limits.{SESSION_TIMEOUT}
use Rattle.group_types.specs.Moment.{saturated_sum}
use Rattle.group_types.specs.declared.partition.Partition.{Partition}
use Rattle.group_types.specs.Text.{Text}
use Rattle.group_types.specs.Sets.{has}
use Rattle.group_types.specs.Group.{Record, Group}
use Rattle.group_types.specs.Tick.{ticked}
use Rattle.group_types.specs.HeartbeatStep.{Answer, Arrival, HeartbeatStep}
use Rattle.group_types.specs.Fencing.{IsAcceptedAs}
use Rattle.group_types.specs.Sound.{IsSound}

-- The moment of the member's session deadline has come, which is also how long a static member may be away; or that
-- by which it was to give up what it lost.
abbrev pub IsDue : ℕ → Record → Type 0
IsDue now r = (r.session_deadline ≤ now) ⊎ ((deadline : ℕ) × (r.release_deadline ≡ Some deadline) × (deadline ≤ now))

-- a tick at a moment takes exactly the members that are due from the group, and the others have the records that they
-- had
pub record TakesTheDue (g : Group) (moment : ℕ) (new : Group) : Type 0 where
  pub due : (m : Text) (r : Record) → finite.get g.records m ≡ Some r → IsDue (max g.clock moment) r
      → finite.get new.records m ≡ None
  pub others : (m : Text) (r : Record) → finite.get g.records m ≡ Some r → ¬ IsDue (max g.clock moment) r
      → finite.get new.records m ≡ Some r
  pub nobody : (m : Text) → finite.get g.records m ≡ None → finite.get new.records m ≡ None

abbrev pub TicksTakeTheDue : Type 0
TicksTakeTheDue = (g : Group) (moment : ℕ) → TakesTheDue g moment (ticked g moment)

-- A session lasts 45 s from the member's last accepted heartbeat on, whether it joined, beat or went away.
abbrev pub SessionsLast : Type 0
SessionsLast =
    (g : Group) (a : Arrival) (m : Text) (answer : Answer) (new : Group) (r : Record)
    → IsSound g → HeartbeatStep g a answer new → IsAcceptedAs m answer → finite.get new.records m ≡ Some r
    → r.session_deadline ≡ saturated_sum (max g.clock a.moment) SESSION_TIMEOUT

-- ---- the time to give up what a member lost

-- the member may still read a partition that isn't its target
abbrev pub HasToGiveUp : Group → Text → Type 0
HasToGiveUp g m = (p : Partition) × IsTrue (has g.grants (m, p)) × (finite.get g.target p ≢ Some m)

-- The member holds nothing beyond its target, and has no deadline; or it is to give up the rest by the end of its
-- rebalance timeout, counted from the heartbeat by which it was first asked.
pub data IsTimed (g : Group) (a : Arrival) (new : Group) (m : Text) (after : Record) : Type 0 where
  done : after.release_deadline ≡ None
      → ((p : Partition) → IsTrue (has new.grants (m, p)) → finite.get new.target p ≡ Some m) → IsTimed g a new m after
  first_asked : (before : Record) → HasToGiveUp new m → finite.get g.records m ≡ Some before → before.release_deadline ≡ None
      → after.release_deadline ≡ Some (saturated_sum (max g.clock a.moment) after.rebalance_timeout)
      → IsTimed g a new m after
  asked_before : (before : Record) (deadline : ℕ) → HasToGiveUp new m → finite.get g.records m ≡ Some before
      → before.release_deadline ≡ Some deadline → after.release_deadline ≡ Some deadline → IsTimed g a new m after

-- of the accepted joins and beats
abbrev pub ReleasesAreTimed : Type 0
ReleasesAreTimed =
    (g : Group) (a : Arrival) (m : Text) (answer : Answer) (new : Group) (epoch : ℕ) (after : Record)
    → IsSound g → HeartbeatStep g a answer new → a.heartbeat.epoch ≡ pos epoch → IsAcceptedAs m answer
    → finite.get new.records m ≡ Some after → IsTimed g a new m after
