-- KIP-848, "ConsumerGroupHeartbeat API": what a reply shows its member.
use Rattle.std.specs.Prelude.{◌≡◌, ◌↔◌, pos, ℕ, false, Some, None, IsTrue}
use Rattle.std.specs.FinMap as finite
use Rattle.group_types.specs.declared.partition.Partition.{Partition}
use Rattle.group_types.specs.Text.{Text}
use Rattle.group_types.specs.Sets.{has}
use Rattle.group_types.specs.Partition.{Partitions}
use Rattle.group_types.specs.Request.{is_full}
use Rattle.group_types.specs.Group.{Record, Group}
use Rattle.group_types.specs.HeartbeatStep.{Answer, Reply, Arrival, HeartbeatStep}
use Rattle.group_types.specs.Fencing.{IsAcceptedAs}
use Rattle.group_types.specs.Sound.{IsSound}

-- the set is what the member holds of its target
abbrev pub IsShown : Group → Text → Partitions → Type 0
IsShown g m set = (p : Partition) → IsTrue (has set p) ↔ (IsTrue (has g.grants (m, p)) × (finite.get g.target p ≡ Some m))

-- the set that the member was last sent is that one
pub record WasSent (g : Group) (new : Group) (m : Text) : Type 0 where
  pub kept : Record
  pub is_kept : finite.get g.records m ≡ Some kept
  pub set : Partitions
  pub is_set : kept.sent ≡ Some set
  pub shown : IsShown new m set

-- An assignment is what its member holds of its target. None stands exactly where the heartbeat wasn't full, and the
-- member was sent that already (ours). The set that a member was last sent is that of the last reply with an
-- assignment.
pub record ShowsNews (g : Group) (a : Arrival) (m : Text) (reply : Reply) (new : Group) : Type 0 where
  pub shows : (set : Partitions) → reply.assignment ≡ Some set → IsShown new m set
  pub no_news : (reply.assignment ≡ None) ↔ ((is_full a.heartbeat ≡ false) × WasSent g new m)
  pub sent : (set : Partitions) (after : Record) → reply.assignment ≡ Some set
      → finite.get new.records m ≡ Some after → after.sent ≡ Some set
  pub unsent : (before after : Record) → reply.assignment ≡ None
      → finite.get g.records m ≡ Some before → finite.get new.records m ≡ Some after → after.sent ≡ before.sent

-- of the accepted joins and beats; nothing is shown to a member that leaves, or goes away
abbrev pub AssignmentsAreNews : Type 0
AssignmentsAreNews =
    (g : Group) (a : Arrival) (m : Text) (answer : Answer) (new : Group) (epoch : ℕ)
    → IsSound g → HeartbeatStep g a answer new → a.heartbeat.epoch ≡ pos epoch → (accepted : IsAcceptedAs m answer)
    → ShowsNews g a m accepted.reply new
