-- KIP-848, "Consumer Group Heartbeat": a member is fenced exactly where its heartbeat is at another epoch than its own.
use Rattle.std.specs.Prelude.{◌≡◌, ◌↔◌, ℕ, suc, pos, false, All, List, Some, IsTrue}
use Rattle.std.specs.FinMap as finite
use Rattle.std.specs.declared.cmp.Ordering.TheVariants.{Greater}
use Rattle.group_types.specs.declared.code.Code.TheVariants.{FencedMemberEpoch}
use Rattle.group_types.specs.declared.epoch.Epoch.TheVariants.{At}
use Rattle.group_types.specs.declared.partition.Partition.{Partition}
use Rattle.group_types.specs.Stamp.{stamp_cmp}
use Rattle.group_types.specs.Sets.{has}
use Rattle.group_types.specs.Request.{Heartbeat, is_invalid, is_unsupported}
use Rattle.group_types.specs.Group.{Record, Group}
use Rattle.group_types.specs.HeartbeatStep.{Answer, Replied, Arrival, HeartbeatStep, refusal}
use Rattle.group_types.specs.Sound.{IsSound}

-- the heartbeat reports partitions, and all of them are granted to the member
pub record ReportsGranted (g : Group) (q : Heartbeat) : Type 0 where
  pub owned : List Partition
  pub is_owned : q.owned ≡ Some owned
  pub granted : All (λ p. IsTrue (has g.grants (q.member, p))) owned

-- The number is the member's epoch; or it is the one before, and the heartbeat reports granted partitions alone (the
-- latter is ours: KIP-848 lets a member whose reply was lost go on). A member that is away is at no epoch.
pub data IsAtEpoch (g : Group) (q : Heartbeat) (r : Record) (n : ℕ) : Type 0 where
  present : r.epoch ≡ At n → IsAtEpoch g q r n
  previous : (e : ℕ) → r.epoch ≡ At e → r.previous_epoch ≡ n → ReportsGranted g q → IsAtEpoch g q r n

-- of a beat of a member that is in order otherwise and wasn't overtaken
abbrev pub FencesTheLate : Type 0
FencesTheLate =
    (g : Group) (a : Arrival) (answer : Answer) (new : Group) (n : ℕ) (r : Record)
    → IsSound g → HeartbeatStep g a answer new → a.heartbeat.epoch ≡ pos (suc n)
    → is_invalid a.heartbeat ≡ false → is_unsupported a.heartbeat ≡ false
    → finite.get g.records a.heartbeat.member ≡ Some r → stamp_cmp a.stamp r.stamp ≡ Greater
    → (answer ≡ Replied (refusal FencedMemberEpoch)) ↔ ¬ IsAtEpoch g a.heartbeat r (suc n)
