-- What holds of every step of the coordinator, and after every run.
use Rattle.std.specs.Prelude.{◌≡◌, ◌≢◌, ℕ, ◌≤◌, ℤ, pos, List, [], length, Some, None}
use Rattle.std.specs.FinMap as finite
use Rattle.kip_msgs.specs.Values.{RequestHeaderValue, HeartbeatRequestValue, heartbeat_request}
use Rattle.group_types.specs.declared.stamp.Stamp.{Stamp}
use Rattle.group_types.specs.Text.{Text}
use Rattle.group_types.specs.Images.{AreImageTopics}
use Rattle.group_types.specs.Group.{Group}
use Rattle.group_types.specs.HeartbeatStep.{Reply}
use Rattle.group_types.specs.Sound.{IsSound}
use Rattle.group_core.specs.Outcome.{reply_room}
use Rattle.coord_node.specs.Coordinator.{Coordinator, Event, Frame, Answer, Closes, opening}
use Rattle.coord_node.specs.Replies.{IsReplyFrame, reply_value}
use Rattle.coord_node.specs.Steps.{EventRelation, IsRequest, RunBy, Step}

-- an event has one answer at a node, and leaves one node
abbrev pub OneAnswer : Type 0
OneAnswer =
    (c : Coordinator) (event : Event) (a b : Answer) (n o : Coordinator)
    → Step c event a n → Step c event b o → (a ≡ b) × (n ≡ o)

-- KIP-848, "Consumer Group Heartbeat": a member joins with MemberEpoch 0 and no MemberId; here it has no
-- InstanceId either. Its group isn't there, or is sound.
pub record IsFirstJoin (c : Coordinator) (v : HeartbeatRequestValue) : Type 0 where
  pub epoch : v.member_epoch ≡ pos 0
  pub member : v.member_id ≡ []
  pub instance : v.instance_id ≡ None
  pub sound : (g : Group) → finite.get c.groups v.group_id ≡ Some g → IsSound g

-- a first join is answered: it never closes
abbrev pub AnswersFirstJoins : EventRelation → Type 0
AnswersFirstJoins Steps =
    (c : Coordinator) (header : RequestHeaderValue) (v : HeartbeatRequestValue) (body : List ℕ) (stamp : Stamp)
    (moment : ℕ) (answer : Answer) (new : Coordinator)
    → IsRequest (heartbeat_request header v) body → IsFirstJoin c v
    → Steps c (Frame body stamp moment) answer new → answer ≢ Closes

-- a frame that spells a reply fits the bytes that are reserved for it
abbrev pub RepliesFit : Type 0
RepliesFit = (correlation : ℤ) (r : Reply) (frame : List ℕ) → IsReplyFrame (reply_value correlation r) frame → length frame ≤ reply_room r

-- ---- each group is sound, whatever came to its coordinator

abbrev pub HasSoundGroups : Coordinator → Type 0
HasSoundGroups c = (name : Text) (g : Group) → finite.get c.groups name ≡ Some g → IsSound g

-- A coordinator as it is at each time after its opening: its groups are sound, by which a reply's epoch is an INT32 and what it
-- assigns is of an image's topics, and its own topics are an image's.
pub record IsServing (c : Coordinator) : Type 0 where
  pub groups : HasSoundGroups c
  pub image : AreImageTopics c.image

-- an event leaves a coordinator that serves where there was one
abbrev pub StepsAreSound : EventRelation → Type 0
StepsAreSound Steps =
    (c : Coordinator) (event : Event) (answer : Answer) (new : Coordinator)
    → Steps c event answer new → IsServing c → IsServing new

-- whatever came to a coordinator since its opening, each of its groups is sound
abbrev pub GroupsAreSound : EventRelation → Type 0
GroupsAreSound Steps =
    (salt : ℕ) (events : List Event) (answers : List Answer) (c : Coordinator)
    → RunBy Steps (opening salt) events answers c → HasSoundGroups c
