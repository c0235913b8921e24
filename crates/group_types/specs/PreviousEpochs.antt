-- KIP-848, "Consumer Group Heartbeat": the previous member epoch is the one that the member had before its present one.
use Rattle.std.specs.Prelude.{◌≡◌, ◌≢◌, Some}
use Rattle.std.specs.FinMap as finite
use Rattle.group_types.specs.declared.epoch.Epoch.{Epoch}
use Rattle.group_types.specs.declared.epoch.Epoch.TheVariants.{At, Away}
use Rattle.group_types.specs.Text.{Text}
use Rattle.group_types.specs.Group.{Record, Group}
use Rattle.group_types.specs.HeartbeatStep.{Answer, Arrival, HeartbeatStep}
use Rattle.group_types.specs.Sound.{IsSound}

-- Where the member epoch is another one, the previous epoch is the former one; else it stays. A member that was away had
-- noted its last epoch as its previous one, and it stays that.
abbrev pub IsFormerEpoch : Record → Epoch → Record → Epoch → Type 0
IsFormerEpoch r (At e) after (At f) =
    (f ≢ e → after.previous_epoch ≡ e) × (f ≡ e → after.previous_epoch ≡ r.previous_epoch)
IsFormerEpoch r (At e) after Away = after.previous_epoch ≡ e
IsFormerEpoch r Away after f = after.previous_epoch ≡ r.previous_epoch

-- of each member that has a record before and after a heartbeat, whoever sent that
abbrev pub PreviousEpochsAreFormer : Type 0
PreviousEpochsAreFormer =
    (g : Group) (a : Arrival) (answer : Answer) (new : Group) (m : Text) (r after : Record)
    → IsSound g → HeartbeatStep g a answer new
    → finite.get g.records m ≡ Some r → finite.get new.records m ≡ Some after
    → IsFormerEpoch r r.epoch after after.epoch
