-- What the machine's definition comes to.
use Rattle.std.specs.Prelude.{◌≡◌, ◌↔◌, ℕ, suc, Some}
use Rattle.group_types.specs.Sets.{nothing}
use Rattle.group_types.specs.Partition.{Partitions}
use Rattle.group_types.specs.Topics.{Topics, Names, view_of}
use Rattle.group_types.specs.MemberId.{made_id}
use Rattle.group_types.specs.Group.{Group, starting_group}
use Rattle.group_types.specs.Join.{IsNamed, Name, names_after}
use Rattle.group_types.specs.Owners.{IsAllSubscribed}
use Rattle.group_types.specs.Checks.{Verdict, Accepted, Refused, Overtaken, sender_of}
use Rattle.group_types.specs.HeartbeatStep.{Answer, Replied, Arrival, TakesIn, draft_under, refusal, HeartbeatStep}
use Rattle.group_types.specs.Sound.{IsSound}
use Rattle.group_core.specs.Checks.{MakesMember, verdict_on_first}
use Rattle.group_core.specs.CodeOrder.{TakesInLate, late_draft_under}
use Rattle.group_core.specs.Outcome.{accepted}

-- a heartbeat has one answer in a group, and leaves one group
abbrev pub HasOneAnswer : Type 0
HasOneAnswer =
    (g : Group) (h : Arrival) (a b : Answer) (n o : Group)
    → HeartbeatStep g h a n → HeartbeatStep g h b o → (a ≡ b) × (n ≡ o)

-- KIP-848, "Target Assignment": the first member gets the first id and an epoch, and owns all that it subscribes
abbrev pub IsFirstAcceptance : ℕ → ℕ → Topics → Names → Answer → Group → Type 0
IsFirstAcceptance salt epoch image names answer new =
    (set : Partitions) × IsAllSubscribed (view_of image names) names set
    × (answer ≡ Replied (accepted (made_id salt 1) epoch set)) × (new.epoch ≡ epoch)

-- a refusal says its code and changes nothing, and an acceptance raises the epoch
abbrev pub IsAnsweredBy : Verdict → ℕ → ℕ → Topics → Names → Answer → Group → Type 0
IsAnsweredBy Accepted salt epoch image names answer new = IsFirstAcceptance salt (suc epoch) image names answer new
IsAnsweredBy (Refused code) salt epoch image names answer new = (answer ≡ Replied (refusal code)) × (new ≡ starting_group salt epoch)
IsAnsweredBy Overtaken salt epoch image names answer new = ⊥

-- A join under no id and no instance, of a group that nobody has joined, is answered as the checks of its request say;
-- where these accept it, it is refused only where the epoch is the greatest.
abbrev pub FirstJoinsAreAnswered : Type 0
FirstJoinsAreAnswered =
    (salt epoch : ℕ) (h : Arrival) (answer : Answer) (new : Group)
    → MakesMember h.heartbeat → HeartbeatStep (starting_group salt epoch) h answer new
    → IsAnsweredBy (verdict_on_first h.heartbeat epoch) salt epoch h.image (names_after nothing h.heartbeat.names) answer new

-- A take-over comes to the same whether its member is renamed first, as the machine says, or last, as the code does it. It
-- rests on no two members having one instance: the target is renewed in member order.
abbrev pub RenamingMayComeLast : Type 0
RenamingMayComeLast =
    (g : Group) (a : Arrival) (name : Name) (answer : Answer) (new : Group) → IsSound g → IsNamed g a.heartbeat.member (Some name)
    → TakesIn g (draft_under name (sender_of g.records a.heartbeat) g a) a.heartbeat a.image answer new
    ↔ TakesInLate g (late_draft_under name (sender_of g.records a.heartbeat) g a) a.heartbeat a.image answer new
