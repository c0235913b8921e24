-- KIP-848, "Static Membership": a member that goes away for a while, at member epoch -2, keeps its place.
use Rattle.std.specs.Prelude.{◌≡◌, ◌≢◌, Some, None}
use Rattle.std.specs.FinMap as finite
use Rattle.group_types.specs.declared.epoch.Epoch.TheVariants.{Away}
use Rattle.group_types.specs.Text.{Text}
use Rattle.group_types.specs.Request.{GOES_AWAY_AT}
use Rattle.group_types.specs.Group.{Record, Group}
use Rattle.group_types.specs.Leave.{last_epoch}
use Rattle.group_types.specs.HeartbeatStep.{Answer, Arrival, HeartbeatStep}
use Rattle.group_types.specs.Fencing.{IsAcceptedAs}

-- the member is Away, its last member epoch is kept, and it isn't asked to give anything up
pub record IsAwayFrom (g : Group) (m : Text) (new : Group) : Type 0 where
  pub before : Record
  pub was : finite.get g.records m ≡ Some before
  pub after : Record
  pub is : finite.get new.records m ≡ Some after
  pub away : after.epoch ≡ Away
  pub last_epoch : last_epoch after ≡ last_epoch before
  pub release : after.release_deadline ≡ None

-- Nothing but the sender's record and the clock differs: target, grants, group epoch and target epoch are as they
-- were, and so is each other member's record. The sender is away, if it was accepted.
pub record KeepsPlace (g : Group) (a : Arrival) (answer : Answer) (new : Group) : Type 0 where
  pub rest : record new { records = g.records; clock = g.clock } ≡ g
  pub others : (m : Text) → m ≢ a.heartbeat.member → finite.get new.records m ≡ finite.get g.records m
  pub sender : (m : Text) → IsAcceptedAs m answer → IsAwayFrom g a.heartbeat.member new

abbrev pub GoingAwayKeepsPlace : Type 0
GoingAwayKeepsPlace =
    (g : Group) (a : Arrival) (answer : Answer) (new : Group)
    → HeartbeatStep g a answer new → a.heartbeat.epoch ≡ GOES_AWAY_AT → KeepsPlace g a answer new
