-- What a node's answer to a frame is to the coordinator's step.
use Rattle.std.specs.Prelude.{◌≡◌, ◌⊎◌, ℕ, ◌+◌, ◌^◌, ◌<◌, ◌≤◌, ℤ, Bool, false, List, ◌++◌, length, IfSome}
use Rattle.std.specs.FinMap as finite
use Rattle.kip_msgs.specs.Values.{CommitReplyValue, CommitRequestValue, ReplyValue, RequestValue}
use Rattle.kip_msgs.specs.Spelling.{reply_body}
use Rattle.kip_msgs.specs.Writable.{IsWritableReply}
use Rattle.kip_msgs.specs.Heads.{HasUnknownKey, HasUnknownVersion}
use Rattle.group_types.specs.Limits.{SMALLEST_BODY, LARGEST_BODY, LONGEST_STRING}
use Rattle.group_types.specs.declared.stamp.Stamp.{Stamp}
use Rattle.group_types.specs.HeartbeatStep.{Arrival}
use Rattle.group_types.specs.HeartbeatStep as group
use Rattle.group_types.specs.Commit.{CommitReply}
use Rattle.group_epochs.specs.Request.{commit_of}
use Rattle.offset_guard.specs.Replies.{commit_reply_value}
use Rattle.group_core.specs.Outcome.{HasFewPartitions, HasRoomFor}
use Rattle.coord_node.specs.declared.event.Answered.{Answered}
use Rattle.coord_node.specs.declared.event.Answered.TheVariants as answered
use Rattle.coord_node.specs.Coordinator.{Coordinator, Event, Answer, Replied, Closes, Done, bytes_of}
use Rattle.coord_node.specs.Replies.{IsReplyFrame, commit_value}
use Rattle.coord_node.specs.Steps.{CommitAt, HeartbeatAt, RequestStep, Sends, Step, is_success, message_of}

-- the kind of an answer to a frame
abbrev pub IsAnswered : Answered → Answer → Type 0
IsAnswered answered.Replied (Replied bytes) = Unit {0}
IsAnswered answered.Replied Closes = ⊥
IsAnswered answered.Replied (Done removed) = ⊥
IsAnswered answered.Closes (Replied bytes) = ⊥
IsAnswered answered.Closes Closes = Unit {0}
IsAnswered answered.Closes (Done removed) = ⊥

-- The node's step is the coordinator's, and the bytes of its answer were appended.
pub record Answers (old : Coordinator) (event : Event) (kind : Answered) (new : Coordinator) (before after : List ℕ) : Type 0 where
  pub answer : Answer
  pub is_answered : IsAnswered kind answer
  pub step : Step old event answer new
  pub bytes : after ≡ before ++ bytes_of answer

-- The same for the request that a frame is.
pub record AnswersRequest (old : Coordinator) (v : RequestValue) (stamp : Stamp) (moment : ℕ) (kind : Answered) (new : Coordinator) (before after : List ℕ) : Type 0 where
  pub answer : Answer
  pub is_answered : IsAnswered kind answer
  pub step : RequestStep old v stamp moment answer new
  pub bytes : after ≡ before ++ bytes_of answer

-- A group's answer was sent, and its bytes were appended.
pub record IsSent (correlation : ℤ) (given : group.Answer) (kind : Answered) (before after : List ℕ) : Type 0 where
  pub answer : Answer
  pub is_answered : IsAnswered kind answer
  pub sends : Sends (message_of correlation given) answer
  pub bytes : after ≡ before ++ bytes_of answer

-- The same for the heartbeat that a request is.
pub record AnswersHeartbeat (old : Coordinator) (correlation : ℤ) (a : Arrival) (kind : Answered) (new : Coordinator) (before after : List ℕ) : Type 0 where
  pub given : group.Answer
  pub step : HeartbeatAt (finite.get old.groups a.heartbeat.group) old a given new
  pub sent : IsSent correlation given kind before after

-- The message is that of the node's answer to a commit.
pub record CommitsIn (old : Coordinator) (v : CommitRequestValue) (message : CommitReplyValue) (new : Coordinator) : Type 0 where
  pub reply : CommitReply
  pub step : CommitAt (finite.get old.groups v.group_id) old (commit_of v) reply new
  pub says : message ≡ commit_reply_value reply

-- A commit was answered, and the bytes of its reply's frame were appended.
pub record IsCommitted (old : Coordinator) (correlation : ℤ) (v : CommitRequestValue) (new : Coordinator) (before after : List ℕ) : Type 0 where
  pub reply : CommitReply
  pub step : CommitAt (finite.get old.groups v.group_id) old (commit_of v) reply new
  pub frame : List ℕ
  pub is_frame : IsReplyFrame (commit_value correlation reply) frame
  pub bytes : after ≡ before ++ frame

-- The frame of a message can be written in `left` bytes.
pub record HasRoomInFrame (v : ReplyValue) (left : ℕ) : Type 0 where
  pub writable : IsWritableReply v
  pub short : length (reply_body v) < 2 ^ 31
  pub room : length (reply_body v) + 4 ≤ left

-- an id that the wire takes
abbrev pub HasShortId : group.Answer → Type 0
HasShortId (group.Replied r) = IfSome r.member (λ id. length id ≤ LONGEST_STRING)
HasShortId group.Closes = Unit {0}

-- A group's answer can be sent in `left` bytes.
pub record IsSendable (given : group.Answer) (left : ℕ) : Type 0 where
  pub id : HasShortId given
  pub few : HasFewPartitions given
  pub room : HasRoomFor given left

-- a reply that says success
abbrev pub succeeds : group.Answer → Bool
succeeds (group.Replied r) = is_success r.code
succeeds group.Closes = false

-- Bodies that close before anything is read from them but the key and the version: of a length outside the limits,
-- of another API, or of another version (Kafka protocol guide, "Request Header v2").
abbrev pub ClosesAtOnce : List ℕ → Type 0
ClosesAtOnce body =
    (length body < SMALLEST_BODY) ⊎ ((LARGEST_BODY < length body) ⊎ (HasUnknownKey body ⊎ HasUnknownVersion body))
