-- KIP-848, "ConsumerGroupHeartbeat API": when a group answers COORDINATOR_NOT_AVAILABLE (when is ours): where it can't go on, and only then.
use Rattle.std.specs.Prelude.{◌≡◌, ◌≤◌, ℕ, ◌<◌, pos, true, [], Some}
use Rattle.std.specs.FinMap as finite
use Rattle.group_types.specs.declared.code.Code.TheVariants.{CoordinatorNotAvailable}
use Rattle.group_types.specs.Text.{Text}
use Rattle.group_types.specs.MemberId.{made_id}
use Rattle.group_types.specs.Members.{is_remembered, members_of}
use Rattle.group_types.specs.Group.{Record, Group}
use Rattle.group_types.specs.Renewal.{view_for}
use Rattle.group_types.specs.HeartbeatStep.{Answer, Arrival, HeartbeatStep}
use Rattle.group_types.specs.Fencing.{IsAcceptedAs}
use Rattle.group_types.specs.Given.{AreNamesGiven, IsAssignorGiven}
use Rattle.group_types.specs.Sound.{IsSound}
use Rattle.machine_laws.specs.Codes.{Says}

-- An id is to be made, and each serial that is left has the id of a member or of a former one; or the group epoch is the greatest INT32.
pub data IsAtItsEnd (g : Group) (a : Arrival) : Type 0 where
  no_serial : a.heartbeat.epoch ≡ pos 0 → a.heartbeat.member ≡ []
      → ((k : ℕ) → g.serial ≤ k → k < 18446744073709551616 → is_remembered (members_of g) (made_id g.salt k) ≡ true) → IsAtItsEnd g a
  no_epoch : (n : ℕ) → a.heartbeat.epoch ≡ pos n → 2147483647 ≤ g.epoch → IsAtItsEnd g a

-- a member gives the names and the assignor that it has, or none, and the view is that of the image
pub record ChangesNothing (g : Group) (a : Arrival) (r : Record) : Type 0 where
  pub kept : finite.get g.records a.heartbeat.member ≡ Some r
  pub names : AreNamesGiven a.heartbeat.names r.names r.names
  pub assignor : IsAssignorGiven a.heartbeat.assignor r.assignor r.assignor
  pub view : view_for a.image g.records ≡ g.view

-- At the greatest epoch what changes nothing is answered as ever, and nothing is accepted that would raise the epoch.
pub record GroupsEnd : Type 0 where
  pub reasons : (g : Group) (a : Arrival) (answer : Answer) (new : Group)
      → HeartbeatStep g a answer new → Says CoordinatorNotAvailable answer → IsAtItsEnd g a
  pub unchanged : (g : Group) (a : Arrival) (answer : Answer) (new : Group) (n : ℕ) (r : Record)
      → IsSound g → HeartbeatStep g a answer new → a.heartbeat.epoch ≡ pos n → ChangesNothing g a r → ¬ Says CoordinatorNotAvailable answer
  pub changed : (g : Group) (a : Arrival) (m : Text) (answer : Answer) (new : Group) (n : ℕ)
      → IsSound g → HeartbeatStep g a answer new → a.heartbeat.epoch ≡ pos n → IsAcceptedAs m answer → 2147483647 ≤ g.epoch
      → (new.epoch ≡ g.epoch)
