-- Which heartbeats are late (ours; KIP-848 leaves the order in which messages come to the connection): a group keeps
-- the stamp of the last heartbeat that it accepted under an id, and by it tells a late one, and a repeated one, from
-- a new one.
use Rattle.std.specs.Prelude.{◌≡◌, ◌≢◌, ◌↔◌, false, List, [], ◌∷◌, Option, Some, None, IsTrue}
use Rattle.std.specs.FinMap as finite
use Rattle.std.specs.declared.cmp.Ordering.TheVariants.{Greater}
use Rattle.group_types.specs.declared.code.Code.TheVariants.{NoError}
use Rattle.group_types.specs.declared.stamp.Stamp.{Stamp}
use Rattle.group_types.specs.Text.{Text}
use Rattle.group_types.specs.Stamp.{stamp_cmp}
use Rattle.group_types.specs.Request.{Heartbeat, Kind, Joins, Beats, Leaves, GoesAway, MeansNothing, kind_of, is_invalid, is_unsupported}
use Rattle.group_types.specs.Group.{Record, Group}
use Rattle.group_types.specs.Members.{HasInstance, is_remembered, members_of, past_stamp}
use Rattle.group_types.specs.HeartbeatStep.{Answer, Replied, Closes, Reply, Arrival, HeartbeatStep}
use Rattle.group_types.specs.Sound.{IsSound}
use Rattle.group_types.specs.Laws.{GroupEvent, IsGroupStep}

-- ---- the last accepted heartbeat

-- beside the record of a member, and beside the id of a former one
abbrev pub stamp_kept : Option Record → Option Stamp → Option Stamp
stamp_kept None past = past
stamp_kept (Some r) past = Some r.stamp

-- the stamp of the last heartbeat that was accepted under an id, as long as the group knows the id
abbrev pub last_stamp : Group → Text → Option Stamp
last_stamp g m = stamp_kept (finite.get g.records m) (past_stamp g.past m)

-- the stamp is that one, or an earlier one
abbrev pub IsLate : Stamp → Stamp → Type 0
IsLate stamp last = stamp_cmp stamp last ≢ Greater

-- the heartbeat is answered with code 0 under an id
pub record IsAcceptedAs (m : Text) (answer : Answer) : Type 0 where
  pub reply : Reply
  pub is_reply : answer ≡ Replied reply
  pub code : reply.code ≡ NoError
  pub member : reply.member ≡ Some m

-- ---- each is accepted once

-- events one after the other, in which the group never forgets the id
abbrev pub IsRunKnowing : Text → Group → List GroupEvent → Group → Type 0
IsRunKnowing m g [] new = new ≡ g
IsRunKnowing m g (event ∷ events) new =
    (next : Group) × IsGroupStep g event next × IsTrue (is_remembered (members_of next) m) × IsRunKnowing m next events new

-- Once a heartbeat of a member was accepted, none with the same stamp or an earlier one is answered with code 0 under
-- its id, as long as the group knows the id.
abbrev pub AcceptsOnce : Type 0
AcceptsOnce =
    (g : Group) (a : Arrival) (m : Text) (answer : Answer) (next : Group) (events : List GroupEvent) (last : Group)
    (b : Arrival) (reply : Reply) (new : Group)
    → IsSound g → HeartbeatStep g a answer next → IsAcceptedAs m answer → IsRunKnowing m next events last
    → b.heartbeat.member ≡ m → IsLate b.stamp a.stamp → HeartbeatStep last b (Replied reply) new
    → reply.code ≢ NoError

-- ---- which are closed on

-- The stamp that a heartbeat has to be above: its member's, and of a join also a former member's. Other heartbeats of
-- a former member are answered that it is unknown.
abbrev pub stamp_to_pass : Kind → Group → Text → Option Stamp
stamp_to_pass Joins g m = last_stamp g m
stamp_to_pass (Beats n) g m = stamp_kept (finite.get g.records m) None
stamp_to_pass Leaves g m = stamp_kept (finite.get g.records m) None
stamp_to_pass GoesAway g m = stamp_kept (finite.get g.records m) None
stamp_to_pass MeansNothing g m = None

pub record IsOvertaken (g : Group) (a : Arrival) : Type 0 where
  pub last : Stamp
  pub is_last : stamp_to_pass (kind_of a.heartbeat.epoch) g a.heartbeat.member ≡ Some last
  pub late : IsLate a.stamp last

-- who goes away is the member with the instance that its heartbeat names
abbrev pub IsOfInstance : Kind → Group → Heartbeat → Type 0
IsOfInstance Joins g q = Unit {0}
IsOfInstance (Beats n) g q = Unit {0}
IsOfInstance Leaves g q = Unit {0}
IsOfInstance GoesAway g q = (instance : Text) × (q.instance ≡ Some instance) × HasInstance g.records q.member instance
IsOfInstance MeansNothing g q = ⊥

-- nothing is wrong with the heartbeat itself
pub record IsInOrder (g : Group) (q : Heartbeat) : Type 0 where
  pub valid : is_invalid q ≡ false
  pub supported : is_unsupported q ≡ false
  pub of_instance : IsOfInstance (kind_of q.epoch) g q

-- a connection is closed on exactly the heartbeats that are in order and were overtaken, and then nothing has changed
abbrev pub ClosesOnTheOvertaken : Type 0
ClosesOnTheOvertaken =
    (g : Group) (a : Arrival) (answer : Answer) (new : Group) → IsSound g → HeartbeatStep g a answer new
    → ((answer ≡ Closes) ↔ (IsInOrder g a.heartbeat × IsOvertaken g a)) × (answer ≡ Closes → new ≡ g)
