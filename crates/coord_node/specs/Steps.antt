-- The coordinator's run: what each event does to the node, and what is answered.
use Rattle.std.specs.Prelude.{◌≡◌, ◌⊎◌, ℕ, ℤ, Bool, true, false, nat_lt, List, [], ◌∷◌, map, sum_by, Option, Some, None}
use Rattle.std.specs.FinMap as finite
use Rattle.kip_msgs.specs.Values.{RequestValue, ReplyValue, heartbeat_request, commit_request}
use Rattle.kip_msgs.specs.Spelling.{SpellsRequest}
use Rattle.group_types.specs.Limits.{MOST_GROUPS}
use Rattle.group_types.specs.Frames.{IsBody}
use Rattle.group_types.specs.declared.code.Code.{Code}
use Rattle.group_types.specs.declared.code.Code.TheVariants.{NoError, UnknownTopicOrPartition, OffsetMetadataTooLarge, CoordinatorNotAvailable, UnknownMemberId, InvalidRequest, GroupIdNotFound, GroupMaxSizeReached, FencedMemberEpoch, UnreleasedInstanceId, UnsupportedAssignor, StaleMemberEpoch}
use Rattle.group_types.specs.declared.stamp.Stamp.{Stamp}
use Rattle.group_types.specs.Text.{Text}
use Rattle.group_types.specs.Images.{AreImageTopics}
use Rattle.group_types.specs.Group.{Group, new_group}
use Rattle.group_types.specs.Tick.{ticked, removed_by_tick}
use Rattle.group_types.specs.Commit.{Commit, CommitReply, CommitStep, answers_by}
use Rattle.group_types.specs.HeartbeatStep.{Arrival}
use Rattle.group_types.specs.HeartbeatStep as group
use Rattle.group_epochs.specs.Request.{arrival_of, commit_of}
use Rattle.coord_node.specs.Replies.{IsReplyFrame, reply_value, commit_value}
use Rattle.coord_node.specs.Coordinator.{Coordinator, Groups, Event, Frame, Tick, Image, Answer, Replied, Closes, Done}

abbrev pub is_success : Code → Bool
is_success NoError = true
is_success UnknownTopicOrPartition = false
is_success OffsetMetadataTooLarge = false
is_success CoordinatorNotAvailable = false
is_success UnknownMemberId = false
is_success InvalidRequest = false
is_success GroupIdNotFound = false
is_success GroupMaxSizeReached = false
is_success FencedMemberEpoch = false
is_success UnreleasedInstanceId = false
is_success UnsupportedAssignor = false
is_success StaleMemberEpoch = false

-- the node with a group under a name
abbrev pub with_group : Coordinator → Text → Group → Coordinator
with_group c name g = record c { groups = finite.insert c.groups name g }

-- a heartbeat of a group that is absent, and what it comes to in a new one
pub record Opening : Type 0 where
  pub name : Text
  pub left : Group
  pub reply : group.Reply

-- A group that is absent is made by a heartbeat that succeeds in it, where the node has room for one more
-- group; COORDINATOR_NOT_AVAILABLE where it hasn't.
abbrev pub Makes : Bool → Bool → Coordinator → Opening → group.Answer → Coordinator → Type 0
Makes true true c o answer new = (answer ≡ group.Replied o.reply) × (new ≡ with_group c o.name o.left)
Makes true false c o answer new =
    (answer ≡ group.Replied (group.refusal CoordinatorNotAvailable)) × (new ≡ c)
Makes false room c o answer new = (answer ≡ group.Replied o.reply) × (new ≡ c)

abbrev pub has_room : Coordinator → Bool
has_room c = nat_lt (finite.len c.groups) MOST_GROUPS

-- by the answer of the new group
abbrev pub MakesBy : group.Answer → Coordinator → List ℕ → Group → group.Answer → Coordinator → Type 0
MakesBy (group.Replied reply) c name g answer new =
    Makes (is_success reply.code) (has_room c) c (record { name = name; left = g; reply = reply }) answer new
MakesBy group.Closes c name g answer new = (answer ≡ group.Closes) × (new ≡ c)

-- By the group that the node has under the name. Where it has none, a new one answers.
abbrev pub HeartbeatAt : Option Group → Coordinator → Arrival → group.Answer → Coordinator → Type 0
HeartbeatAt None c a answer new =
    (given : group.Answer) × (g : Group) × group.HeartbeatStep (new_group c.salt) a given g
    × MakesBy given c a.heartbeat.group g answer new
HeartbeatAt (Some g) c a answer new =
    (after : Group) × group.HeartbeatStep g a answer after × (new ≡ with_group c a.heartbeat.group after)

-- By the group that the node has under the name: GROUP_ID_NOT_FOUND where it has none.
abbrev pub CommitAt : Option Group → Coordinator → Commit → CommitReply → Coordinator → Type 0
CommitAt None c r reply new = (reply ≡ answers_by (λ name x. GroupIdNotFound) r) × (new ≡ c)
CommitAt (Some g) c r reply new =
    (after : Group) × CommitStep g r c.image reply after × (new ≡ with_group c r.group after)

-- what is sent of a group's answer: a message, or nothing, and the connection is closed
abbrev pub message_of : ℤ → group.Answer → Option ReplyValue
message_of correlation (group.Replied reply) = Some (reply_value correlation reply)
message_of correlation group.Closes = None

-- a message as the bytes of its frame
abbrev pub Sends : Option ReplyValue → Answer → Type 0
Sends (Some v) (Replied frame) = IsReplyFrame v frame
Sends (Some v) Closes = ⊥
Sends (Some v) (Done removed) = ⊥
Sends None (Replied frame) = ⊥
Sends None Closes = Unit {0}
Sends None (Done removed) = ⊥

-- by the API of the request
abbrev pub RequestStep : Coordinator → RequestValue → Stamp → ℕ → Answer → Coordinator → Type 0
RequestStep c (heartbeat_request header v) stamp moment answer new =
    (given : group.Answer)
    × HeartbeatAt (finite.get c.groups v.group_id) c (arrival_of v stamp moment c.image) given new
    × Sends (message_of header.correlation_id given) answer
RequestStep c (commit_request header v) stamp moment answer new =
    (reply : CommitReply)
    × CommitAt (finite.get c.groups v.group_id) c (commit_of v) reply new
    × Sends (Some (commit_value header.correlation_id reply)) answer

-- a body's length is within the limits, and it is the request
pub record IsRequest (v : RequestValue) (body : List ℕ) : Type 0 where
  pub is_body : IsBody body
  pub spells : SpellsRequest v body

-- what a request does to a coordinator
abbrev pub RequestRelation : Type 1
RequestRelation = Coordinator → RequestValue → Stamp → ℕ → Answer → Coordinator → Type 0

-- by what a request does: a body that is no request closes
abbrev pub FrameStepBy : RequestRelation → Coordinator → List ℕ → Stamp → ℕ → Answer → Coordinator → Type 0
FrameStepBy Requests c body stamp moment answer new =
    ((v : RequestValue) × IsRequest v body × Requests c v stamp moment answer new)
    ⊎ (((v : RequestValue) → ¬ IsRequest v body) × (answer ≡ Closes) × (new ≡ c))

-- every group meets the moment
abbrev pub all_ticked : Groups → ℕ → Groups
all_ticked groups moment = finite.from_entries (map (λ e. (e.0, ticked e.1 moment)) (finite.entries groups))

-- how many members a tick removes from all groups
abbrev pub removed_from_all : Groups → ℕ → ℕ
removed_from_all groups moment = sum_by (λ g. removed_by_tick g moment) (finite.values groups)

-- every image is of topics of which an image's facts hold
abbrev pub Step : Coordinator → Event → Answer → Coordinator → Type 0
Step c (Frame body stamp moment) answer new = FrameStepBy RequestStep c body stamp moment answer new
Step c (Tick moment) answer new =
    (answer ≡ Done (removed_from_all c.groups moment)) × (new ≡ record c { groups = all_ticked c.groups moment })
Step c (Image topics) answer new = (answer ≡ Done 0) × (new ≡ record c { image = topics }) × AreImageTopics topics

-- what an event does to a coordinator
abbrev pub EventRelation : Type 1
EventRelation = Coordinator → Event → Answer → Coordinator → Type 0

-- one step after the other, from the first state to the last
abbrev pub RunBy : EventRelation → Coordinator → List Event → List Answer → Coordinator → Type 0
RunBy Steps c [] [] new = new ≡ c
RunBy Steps c [] (answer ∷ answers) new = ⊥
RunBy Steps c (event ∷ events) [] new = ⊥
RunBy Steps c (event ∷ events) (answer ∷ answers) new =
    (middle : Coordinator) × Steps c event answer middle × RunBy Steps middle events answers new

abbrev pub Run : Coordinator → List Event → List Answer → Coordinator → Type 0
Run = RunBy Step
