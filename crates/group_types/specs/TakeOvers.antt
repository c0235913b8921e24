-- KIP-848, "Static Membership": a static member that comes back under another id has what the old id had.
use Rattle.std.specs.Prelude.{◌≡◌, ◌≢◌, ◌↔◌, Some, None, IsTrue}
use Rattle.std.specs.FinMap as finite
use Rattle.group_types.specs.declared.epoch.Epoch.TheVariants.{Away}
use Rattle.group_types.specs.declared.partition.Partition.{Partition}
use Rattle.group_types.specs.Text.{Text}
use Rattle.group_types.specs.Sets.{has}
use Rattle.group_types.specs.Group.{Record, Group}
use Rattle.group_types.specs.HeartbeatStep.{Answer, Arrival, HeartbeatStep}
use Rattle.group_types.specs.FormerMembers.{IsFormer}
use Rattle.group_types.specs.Fencing.{IsAcceptedAs}
use Rattle.group_types.specs.Sound.{IsSound}

-- A heartbeat is accepted under an id that had no record, and another id has none any more: that one's heir it is.
pub record TakesOver (g : Group) (answer : Answer) (new : Group) (old heir : Text) (r : Record) : Type 0 where
  pub accepted : IsAcceptedAs heir answer
  pub absent : finite.get g.records heir ≡ None
  pub was : finite.get g.records old ≡ Some r
  pub gone : finite.get new.records old ≡ None
  pub not_left : heir ≢ old

-- The old id was away, has neither grants nor target, and is a former member's. The heir has its instance. It is to
-- own what the old id was, where the target isn't a later one. It holds exactly the part of its target that nobody but
-- the old id held.
pub record IsHeirTo (g new : Group) (old heir : Text) (r : Record) : Type 0 where
  pub away : r.epoch ≡ Away
  pub former : IsFormer new old r.stamp
  pub after : Record
  pub has_record : finite.get new.records heir ≡ Some after
  pub same_instance : after.instance ≡ r.instance
  pub to_own : new.target_epoch ≡ g.target_epoch → (p : Partition)
      → (finite.get new.target p ≡ Some heir) ↔ (finite.get g.target p ≡ Some old)
  pub holds : (p : Partition) → IsTrue (has new.grants (heir, p))
      ↔ ((finite.get new.target p ≡ Some heir) × ((n : Text) → IsTrue (has g.grants (n, p)) → n ≡ old))
  pub nothing_held : (p : Partition) → ¬ IsTrue (has new.grants (old, p))
  pub nothing_owned : (p : Partition) → ¬ (finite.get new.target p ≡ Some old)

abbrev pub HeirsHaveAll : Type 0
HeirsHaveAll =
    (g : Group) (a : Arrival) (answer : Answer) (new : Group) (old heir : Text) (r : Record)
    → IsSound g → HeartbeatStep g a answer new → TakesOver g answer new old heir r → IsHeirTo g new old heir r
