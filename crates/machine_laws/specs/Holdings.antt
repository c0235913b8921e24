-- KIP-848, "Reconciliation of the group": what a member may read after a join or a beat of its own.
use Rattle.std.specs.Prelude.{◌≡◌, ◌≢◌, ◌↔◌, ℕ, pos, false, Some, IsTrue}
use Rattle.std.specs.FinMap as finite
use Rattle.group_types.specs.declared.partition.Partition.{Partition}
use Rattle.group_types.specs.Text.{Text}
use Rattle.group_types.specs.Sets.{has}
use Rattle.group_types.specs.Partition.{Partitions}
use Rattle.group_types.specs.Request.{reported}
use Rattle.group_types.specs.Group.{Record, Group}
use Rattle.group_types.specs.HeartbeatStep.{Answer, Arrival, HeartbeatStep}
use Rattle.group_types.specs.Fencing.{IsAcceptedAs}
use Rattle.group_types.specs.Sound.{IsSound}

-- of what the member held and isn't to own it reports that it owns nothing
abbrev pub HasGivenUp : Group → Arrival → Text → Group → Type 0
HasGivenUp g a m new =
    (p : Partition) → IsTrue (has g.grants (m, p)) → finite.get new.target p ≢ Some m → (owned : Partitions) × (reported a.heartbeat ≡ Some owned) × (has owned p ≡ false)

-- it held a partition that it isn't to own, and reports nothing, or that it owns it still
pub record OwnsStill (g : Group) (a : Arrival) (m : Text) (new : Group) : Type 0 where
  pub partition : Partition
  pub held : IsTrue (has g.grants (m, partition))
  pub lost : finite.get new.target partition ≢ Some m
  pub owns : (owned : Partitions) → reported a.heartbeat ≡ Some owned → IsTrue (has owned partition)

-- Once it has given up what it lost, it holds all of its target that nobody else held, and nothing more. Until then it holds what it held.
pub data HoldsWhatItMay (g : Group) (a : Arrival) (m : Text) (new : Group) : Type 0 where
  all_that_is_free : HasGivenUp g a m new
      → ((p : Partition) → IsTrue (has new.grants (m, p)) ↔ ((finite.get new.target p ≡ Some m) × ((k : Text) → IsTrue (has g.grants (k, p)) → k ≡ m)))
      → HoldsWhatItMay g a m new
  as_before : OwnsStill g a m new → ((p : Partition) → has new.grants (m, p) ≡ has g.grants (m, p)) → HoldsWhatItMay g a m new

-- of a member that beats, or joins again (of one that takes another one's place over: HeirsHaveAll)
abbrev pub MembersHoldWhatIsFree : Type 0
MembersHoldWhatIsFree =
    (g : Group) (a : Arrival) (m : Text) (answer : Answer) (new : Group) (n : ℕ) (before : Record)
    → IsSound g → HeartbeatStep g a answer new → a.heartbeat.epoch ≡ pos n → IsAcceptedAs m answer → finite.get g.records m ≡ Some before → HoldsWhatItMay g a m new
