-- KIP-848, "Reconciliation of the group": when a member epoch rises.
use Rattle.std.specs.Prelude.{◌≡◌, ◌⊎◌, ◌<◌, Some, IsTrue}
use Rattle.std.specs.FinMap as finite
use Rattle.group_types.specs.declared.partition.Partition.{Partition}
use Rattle.group_types.specs.Text.{Text}
use Rattle.group_types.specs.Sets.{has}
use Rattle.group_types.specs.Partition.{Partitions}
use Rattle.group_types.specs.Request.{reported}
use Rattle.group_types.specs.Group.{Record, Group}
use Rattle.group_types.specs.Leave.{last_epoch}
use Rattle.group_types.specs.HeartbeatStep.{Answer, Arrival, HeartbeatStep}
use Rattle.group_types.specs.Sound.{IsSound}

-- what the member held and isn't to own any more, it doesn't report to own
abbrev pub GivesUp : Group → Group → Text → Partitions → Type 0
GivesUp g new m owned =
    (p : Partition) → IsTrue (has g.grants (m, p)) → IsTrue (has owned p) → finite.get new.target p ≡ Some m

-- A member goes on to the target's epoch by its own heartbeat, where it held nothing beyond its target, or has
-- reported what it owns and that is nothing beyond it. Then it holds nothing beyond its target.
pub record GoesOnTo (g : Group) (a : Arrival) (new : Group) (m : Text) (after : Record) : Type 0 where
  pub sender : a.heartbeat.member ≡ m
  pub epoch : last_epoch after ≡ new.target_epoch
  pub gave_up : ((p : Partition) → IsTrue (has g.grants (m, p)) → finite.get new.target p ≡ Some m)
      ⊎ ((owned : Partitions) × (reported a.heartbeat ≡ Some owned) × GivesUp g new m owned)
  pub within : (p : Partition) → IsTrue (has new.grants (m, p)) → finite.get new.target p ≡ Some m

abbrev pub EpochsRiseWithinTargets : Type 0
EpochsRiseWithinTargets =
    (g : Group) (a : Arrival) (answer : Answer) (new : Group) (m : Text) (r after : Record)
    → IsSound g → HeartbeatStep g a answer new
    → finite.get g.records m ≡ Some r → finite.get new.records m ≡ Some after → last_epoch r < last_epoch after
    → GoesOnTo g a new m after
