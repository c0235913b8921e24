-- KIP-848, "ConsumerGroupHeartbeat API": exactly when a join is answered with UNRELEASED_INSTANCE_ID or GROUP_MAX_SIZE_REACHED, and any other heartbeat
-- with UNKNOWN_MEMBER_ID (when each is met is ours).
use Rattle.std.specs.Prelude.{◌≡◌, ◌≢◌, ◌↔◌, ◌≤◌, pos, negsuc, false, Some, None}
use Rattle.std.specs.FinMap as finite
use Rattle.group_types.specs.declared.code.Code.{Code}
use Rattle.group_types.specs.declared.code.Code.TheVariants.{GroupMaxSizeReached, UnknownMemberId, UnreleasedInstanceId}
use Rattle.group_types.specs.declared.epoch.Epoch.TheVariants.{Away}
use Rattle.group_types.specs.Text.{Text}
use Rattle.group_types.specs.Request.{Heartbeat, is_invalid, is_unsupported}
use Rattle.group_types.specs.Group.{Record, Group}
use Rattle.group_types.specs.HeartbeatStep.{Answer, Replied, Reply, Arrival, HeartbeatStep}
use Rattle.group_types.specs.Fencing.{IsOvertaken}
use Rattle.group_types.specs.Sound.{IsSound}

-- the answer has the code
abbrev pub Says : Code → Answer → Type 0
Says code answer = (reply : Reply) × (answer ≡ Replied reply) × (reply.code ≡ code)

-- the sender has a record
abbrev pub IsMember : Group → Heartbeat → Type 0
IsMember g q = (r : Record) × (finite.get g.records q.member ≡ Some r)

-- another member than the sender has the instance that the heartbeat names
pub record HasItsInstance (g : Group) (q : Heartbeat) (n : Text) (r : Record) : Type 0 where
  pub other : n ≢ q.member
  pub is_kept : finite.get g.records n ≡ Some r
  pub instance : Text
  pub names : q.instance ≡ Some instance
  pub has : r.instance ≡ Some instance

-- UNRELEASED_INSTANCE_ID: another member has the instance, and it isn't away, or the sender is a member itself
pub data IsInUse (g : Group) (q : Heartbeat) : Type 0 where
  by_present : (n : Text) (r : Record) → HasItsInstance g q n r → r.epoch ≢ Away → IsInUse g q
  by_any : (n : Text) (r : Record) → HasItsInstance g q n r → IsMember g q → IsInUse g q

-- GROUP_MAX_SIZE_REACHED: the sender is no member and takes no one's place, and there are 10,000 members
pub record IsOneTooMany (g : Group) (q : Heartbeat) : Type 0 where
  pub newcomer : ¬ IsMember g q
  pub nobody : (n : Text) (r : Record) → ¬ HasItsInstance g q n r
  pub many : 10000 ≤ finite.len g.records

-- UNKNOWN_MEMBER_ID: the sender has no record, or goes away under another instance than its own
pub data IsUnknown (g : Group) (q : Heartbeat) : Type 0 where
  no_member : finite.get g.records q.member ≡ None → IsUnknown g q
  other_instance : (r : Record) → q.epoch ≡ negsuc 1 → finite.get g.records q.member ≡ Some r → r.instance ≢ q.instance → IsUnknown g q

-- nothing is wrong with the heartbeat itself
pub record IsRight (q : Heartbeat) : Type 0 where
  pub valid : is_invalid q ≡ false
  pub supported : is_unsupported q ≡ false

-- of a join that was not overtaken
pub record JoinsAreRefused (g : Group) (a : Arrival) (answer : Answer) : Type 0 where
  pub in_use : Says UnreleasedInstanceId answer ↔ IsInUse g a.heartbeat
  pub too_many : Says GroupMaxSizeReached answer ↔ IsOneTooMany g a.heartbeat

abbrev pub JoinsAreRefusedExactly : Type 0
JoinsAreRefusedExactly =
    (g : Group) (a : Arrival) (answer : Answer) (new : Group)
    → IsSound g → HeartbeatStep g a answer new → IsRight a.heartbeat → a.heartbeat.epoch ≡ pos 0 → ¬ IsOvertaken g a → JoinsAreRefused g a answer

-- of a beat, a leave and a going away; no join is answered so
abbrev pub UnknownMembersAreTold : Type 0
UnknownMembersAreTold =
    (g : Group) (a : Arrival) (answer : Answer) (new : Group)
    → IsSound g → HeartbeatStep g a answer new → IsRight a.heartbeat
    → Says UnknownMemberId answer ↔ ((a.heartbeat.epoch ≢ pos 0) × IsUnknown g a.heartbeat)
