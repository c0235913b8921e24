-- KIP-848, "Server Side Assignors": under uniform a renewed target moves nothing that needn't move (the rule of uniform is ours).
use Rattle.std.specs.Prelude.{◌≡◌, ℕ, pos, List, Some}
use Rattle.std.specs.FinMap as finite
use Rattle.group_types.specs.declared.assignor_name.AssignorName.TheVariants.{Uniform}
use Rattle.group_types.specs.Text.{Text}
use Rattle.group_types.specs.Topics.{Topics}
use Rattle.group_types.specs.Assignors.{Subscriber, assignor_of}
use Rattle.group_types.specs.Owners.{IsLawful}
use Rattle.group_types.specs.Uniform.{IsEven}
use Rattle.group_types.specs.Group.{Group, Record, Target}
use Rattle.group_types.specs.Renewal.{AreMembers, Renews}
use Rattle.group_types.specs.HeartbeatStep.{Answer, Arrival, HeartbeatStep}
use Rattle.group_types.specs.Fencing.{IsAcceptedAs}
use Rattle.group_types.specs.Sound.{IsSound}

-- the members ask for uniform, and the target is lawful and even for them and the view
pub record FitsMembers (view : Topics) (subs : List Subscriber) (target : Target) : Type 0 where
  pub uniform : assignor_of subs ≡ Uniform
  pub lawful : IsLawful view subs target
  pub even : IsEven view subs target

-- then a renewal leaves it, whatever has changed of the members and the view
abbrev pub RenewalsKeepOwners : Type 0
RenewalsKeepOwners =
    (g new : Group) → Renews g new → ((subs : List Subscriber) → AreMembers g.records subs → FitsMembers g.view subs g.target) → new.target ≡ g.target

-- whoever was a member still is
abbrev pub NobodyGoes : Group → Group → Type 0
NobodyGoes g new = (k : Text) (r : Record) → finite.get g.records k ≡ Some r → (s : Record) × (finite.get new.records k ≡ Some s)

-- So an accepted join or beat leaves a target that fits the members and the view of then, unless it takes another member's place over.
abbrev pub HeartbeatsKeepOwners : Type 0
HeartbeatsKeepOwners =
    (g : Group) (a : Arrival) (m : Text) (answer : Answer) (new : Group) (n : ℕ)
    → IsSound g → HeartbeatStep g a answer new → a.heartbeat.epoch ≡ pos n → IsAcceptedAs m answer → NobodyGoes g new
    → ((subs : List Subscriber) → AreMembers new.records subs → FitsMembers new.view subs g.target) → new.target ≡ g.target
