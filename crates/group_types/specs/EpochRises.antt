-- KIP-848, "Group Epoch": a join or a beat raises the group epoch exactly where it changes the members, what they ask for, or the view.
use Rattle.std.specs.Prelude.{◌≡◌, ◌⊎◌, ℕ, suc, pos, Some, None}
use Rattle.std.specs.FinMap as finite
use Rattle.group_types.specs.Text.{Text}
use Rattle.group_types.specs.Topics.{Topics}
use Rattle.group_types.specs.Group.{Record, Group}
use Rattle.group_types.specs.Members.{HasInstance}
use Rattle.group_types.specs.Renewal.{view_for}
use Rattle.group_types.specs.HeartbeatStep.{Answer, Arrival, HeartbeatStep}
use Rattle.group_types.specs.Fencing.{IsAcceptedAs}
use Rattle.group_types.specs.Sound.{IsSound}

-- the member subscribes the names and asks for the assignor that it did, and the view is the stored one
pub record AsksForTheSame (g : Group) (image : Topics) (before after : Record) (new : Group) : Type 0 where
  pub names : after.names ≡ before.names
  pub assignor : after.assignor ≡ before.assignor
  pub view : view_for image new.records ≡ g.view

-- of a member whose record was this one before: the epoch rises by one, or all is as it was
abbrev pub RisesUnless : Type 0 → ℕ → ℕ → Type 0
RisesUnless Same epoch after = ((after ≡ suc epoch) × ¬ Same) ⊎ ((after ≡ epoch) × Same)

-- A new member raises the epoch; one that beats, joins again, or takes over another member's record by its instance does so
-- exactly where it asks for something else, or the view is another one.
pub data IsRisen (g : Group) (a : Arrival) (m : Text) (after : Record) (new : Group) : Type 0 where
  newcomer : finite.get g.records m ≡ None → new.epoch ≡ suc g.epoch → IsRisen g a m after new
  own : (before : Record) → finite.get g.records m ≡ Some before
      → RisesUnless (AsksForTheSame g a.image before after new) g.epoch new.epoch → IsRisen g a m after new
  heir : (n i : Text) (before : Record) → finite.get g.records m ≡ None → a.heartbeat.instance ≡ Some i → HasInstance g.records n i
      → finite.get g.records n ≡ Some before
      → RisesUnless (AsksForTheSame g a.image before after new) g.epoch new.epoch → IsRisen g a m after new

-- of the accepted joins and beats
abbrev pub EpochsRiseOnChanges : Type 0
EpochsRiseOnChanges =
    (g : Group) (a : Arrival) (m : Text) (answer : Answer) (new : Group) (n : ℕ) (after : Record)
    → IsSound g → HeartbeatStep g a answer new → a.heartbeat.epoch ≡ pos n → IsAcceptedAs m answer
    → finite.get new.records m ≡ Some after → IsRisen g a m after new
