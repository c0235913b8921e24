-- KIP-848, "Static Membership": a static member that comes back under another id asks for what the old id did, but for what its join gives.
use Rattle.std.specs.Prelude.{◌≡◌, Some, None}
use Rattle.std.specs.FinMap as finite
use Rattle.group_types.specs.Text.{Text}
use Rattle.group_types.specs.Group.{Record, Group}
use Rattle.group_types.specs.EpochRises.{AsksForTheSame, RisesUnless}
use Rattle.group_types.specs.TakeOvers.{TakesOver}
use Rattle.group_types.specs.HeartbeatStep.{Answer, Arrival, HeartbeatStep}
use Rattle.group_types.specs.Sound.{IsSound}

-- The rack and the assignor that the join leaves out are the old id's (a join gives all else), and the group epoch rises exactly where it asks for
-- something else than the old id did, or the view is another one.
pub record AsksAsBefore (g : Group) (a : Arrival) (r after : Record) (new : Group) : Type 0 where
  pub rack : a.heartbeat.rack ≡ None → after.rack ≡ r.rack
  pub assignor : a.heartbeat.assignor ≡ None → after.assignor ≡ r.assignor
  pub epoch : RisesUnless (AsksForTheSame g a.image r after new) g.epoch new.epoch

abbrev pub HeirsAskAsBefore : Type 0
HeirsAskAsBefore =
    (g : Group) (a : Arrival) (answer : Answer) (new : Group) (old heir : Text) (r after : Record)
    → IsSound g → HeartbeatStep g a answer new → TakesOver g answer new old heir r → finite.get new.records heir ≡ Some after
    → AsksAsBefore g a r after new
