-- The commits to a group that a node has answered (KIP-848, "OffsetCommit").
use Rattle.std.specs.Prelude.{◌≡◌, ◌≢◌, ◌⊎◌, ℕ, ℤ, List, [], ◌∷◌, Option, Some, None}
use Rattle.std.specs.Option.{option_or}
use Rattle.std.specs.FinMap as finite
use Rattle.kip_msgs.specs.Values.{CommitRequestValue, RequestHeaderValue, commit_request}
use Rattle.group_types.specs.Text.{Text}
use Rattle.group_types.specs.Commit.{Commit, CommitReply}
use Rattle.group_types.specs.Group.{Committed}
use Rattle.group_types.specs.StoredOffsets.{last_of_topics}
use Rattle.group_epochs.specs.Request.{commit_of}
use Rattle.coord_node.specs.Coordinator.{Answer, Coordinator, Event, Frame, Tick, Image, committed_at, opening}
use Rattle.coord_node.specs.Replies.{commit_value}
use Rattle.coord_node.specs.Steps.{IsRequest, Run, Sends}

-- a commit, and the code of each of its partitions
pub record Answered : Type 0 where
  pub commit : Commit
  pub reply : CommitReply

-- The body is this commit to the group, and the answer is the frame of these codes.
pub record AnswersCommit (name : Text) (body : List ℕ) (answer : Answer) (it : Answered) : Type 0 where
  pub header : RequestHeaderValue
  pub request : CommitRequestValue
  pub is_request : IsRequest (commit_request header request) body
  pub group : request.group_id ≡ name
  pub commit : it.commit ≡ commit_of request
  pub sends : Sends (Some (commit_value header.correlation_id it.reply)) answer

abbrev pub IsAnswered : Text → Event → Answer → Answered → Type 0
IsAnswered name (Frame body stamp moment) answer it = AnswersCommit name body answer it
IsAnswered name (Tick moment) answer it = ⊥
IsAnswered name (Image topics) answer it = ⊥

-- the event is no commit to the group
abbrev pub IsNoCommit : Text → Event → Type 0
IsNoCommit name (Frame body stamp moment) =
    (header : RequestHeaderValue) (v : CommitRequestValue) → IsRequest (commit_request header v) body → v.group_id ≢ name
IsNoCommit name (Tick moment) = Unit {0}
IsNoCommit name (Image topics) = Unit {0}

-- all commits to a group that a run answered, in their order
abbrev pub AreAnswered : Text → List Event → List Answer → List Answered → Type 0
AreAnswered name [] [] all = all ≡ []
AreAnswered name [] (answer ∷ answers) all = ⊥
AreAnswered name (event ∷ events) [] all = ⊥
AreAnswered name (event ∷ events) (answer ∷ answers) all =
    (IsNoCommit name event × AreAnswered name events answers all)
    ⊎ ((it : Answered) × (others : List Answered) × IsAnswered name event answer it × AreAnswered name events answers others × (all ≡ it ∷ others))

-- what the last of them asked for that was answered with no error at a place
abbrev pub last_answered : Text → ℤ → List Answered → Option Committed
last_answered topic index [] = None
last_answered topic index (it ∷ others) =
    option_or (last_answered topic index others) (last_of_topics topic index it.commit.topics it.reply)

-- What a group has committed is what the last commit asked for that was answered with no error.
pub record HasWhatWasAnswered (c : Coordinator) (name : Text) (events : List Event) (answers : List Answer) : Type 0 where
  pub commits : List Answered
  pub all : AreAnswered name events answers commits
  pub stays : (topic : Text) (index : ℤ) → committed_at (finite.get c.groups name) (topic, index) ≡ last_answered topic index commits

-- .. so it is in every group, whatever came to the node since its opening: other members and groups, ticks, images
abbrev pub AnsweredCommitsStay : Type 0
AnsweredCommitsStay =
    (salt : ℕ) (events : List Event) (answers : List Answer) (c : Coordinator) → Run (opening salt) events answers c
    → (name : Text) → HasWhatWasAnswered c name events answers
