-- That every act has an outcome, and that a world comes to one that has settled.
use Rattle.std.specs.Prelude.{◌≡◌, ℕ, List, All, Some}
use Rattle.std.specs.List.{Contains}
use Rattle.kip_msgs.specs.Values.{CommitRequestValue, HeartbeatReplyValue, HeartbeatRequestValue, RequestHeaderValue, ResponseHeaderValue, commit_request, heartbeat_reply, heartbeat_request}
use Rattle.kip_msgs.specs.Spelling.{FitsCommitRequestTopic, SpellsReply}
use Rattle.flex_wire.specs.Composed.{FitsArray}
use Rattle.coord_node.specs.Laws.{IsServing}
use Rattle.coord_node.specs.Steps.{IsRequest}
use Rattle.group_types.specs.Images.{AreImageTopics}
use Rattle.member_core.specs.Client.{Client}
use Rattle.member_core.specs.Asking.{Beat, Full}
use Rattle.member_core.specs.Existence.{CanSay}
use Rattle.member_core.specs.Settings.{FitsSettings, Settings}
use Rattle.world_sim.specs.World.{World, Request, Reply, Commit, new_world, numbered}
use Rattle.world_sim.specs.Acts.{Act, Asks, GivesUp, Deliver, Take, Release, Commits, Bring, Clock, Passes, Sees, Outcome, ActStep, Run}
use Rattle.world_sim.specs.Acting.{IsTooLarge}
use Rattle.world_sim.specs.Rounds.{ComesTo, Settles}
use Rattle.world_sim.specs.Convergence.{CanSettle, IsSettled}

-- a pooled request is a heartbeat, and its sender is there
pub record IsPooled (clients : List Client) (q : Request) : Type 0 where
  pub client : Client
  pub sender : numbered clients q.sender ≡ Some client
  pub header : RequestHeaderValue
  pub heartbeat : HeartbeatRequestValue
  pub is : IsRequest (heartbeat_request header heartbeat) q.body

-- a pooled reply is one to a heartbeat, and its taker is there
pub record CanBeTaken (clients : List Client) (r : Reply) : Type 0 where
  pub client : Client
  pub taker : numbered clients r.request.sender ≡ Some client
  pub header : ResponseHeaderValue
  pub reply : HeartbeatReplyValue
  pub spells : SpellsReply (heartbeat_reply header reply) r.body

-- a pooled commit is one
pub record IsCommit (k : Commit) : Type 0 where
  pub header : RequestHeaderValue
  pub commit : CommitRequestValue
  pub is : IsRequest (commit_request header commit) k.body

-- A world whose coordinator serves, whose clients can say what they know, and whose messages are what their pools are for.
pub record IsLive (w : World) : Type 0 where
  pub serving : IsServing w.coordinator
  pub clients : (n : ℕ) (c : Client) → numbered w.clients n ≡ Some c → CanSay c
  pub requests : (q : Request) → Contains w.requests q → IsPooled w.clients q
  pub replies : (r : Reply) → Contains w.replies r → CanBeTaken w.clients r
  pub commits : (k : Commit) → Contains w.commits k → IsCommit k

-- clients that haven't asked for anything yet, and whose settings a request can say, make a live world
abbrev pub NewWorldsAreLive : Type 0
NewWorldsAreLive = (salt : ℕ) (clients : List Settings) → All FitsSettings clients → IsLive (new_world salt clients)

-- what can be committed has an encoding, and images are images
abbrev pub IsPossible : Act → Type 0
IsPossible (Asks n ask) = Unit {0}
IsPossible (GivesUp n) = Unit {0}
IsPossible (Deliver k) = Unit {0}
IsPossible (Take j) = Unit {0}
IsPossible (Release n p) = Unit {0}
IsPossible (Commits n topics) = FitsArray FitsCommitRequestTopic topics
IsPossible (Bring k) = Unit {0}
IsPossible (Clock moment) = Unit {0}
IsPossible (Passes moment) = Unit {0}
IsPossible (Sees image) = AreImageTopics image

-- an act has an outcome in a live world
abbrev pub ActsHaveAnOutcome : Type 0
ActsHaveAnOutcome = (w : World) (act : Act) → IsLive w → IsPossible act → (outcome : Outcome) × (new : World) × ActStep w act outcome new

-- an act leaves a live world live
abbrev pub ActsLeaveLiveWorlds : Type 0
ActsLeaveLiveWorlds =
    (w : World) (act : Act) (outcome : Outcome) (new : World) → ActStep w act outcome new → IsLive w → IsLive new

-- whatever acts are done from clients that haven't asked for anything yet, each has its outcome
abbrev pub RunsOfActsExist : Type 0
RunsOfActsExist =
    (salt : ℕ) (clients : List Settings) (acts : List Act)
    → All FitsSettings clients → All IsPossible acts
    → (outcomes : List Outcome) × (new : World) × Run (new_world salt clients) acts outcomes new

-- none of the full heartbeats of three rounds is too large
abbrev pub BeatsFit : World → Type 0
BeatsFit first = (n : ℕ) (w : World) → ComesTo first n w → ¬ IsTooLarge w (Asks n (Beat Full))

-- Whatever acts were done from clients that hadn't asked for anything yet: where the world can settle, and the heartbeats fit,
-- three rounds can be made, and they leave a settled one.
abbrev pub SettlingEnds : Type 0
SettlingEnds =
    (salt : ℕ) (clients : List Settings) (acts : List Act) (outcomes : List Outcome) (w : World)
    → All FitsSettings clients → Run (new_world salt clients) acts outcomes w → CanSettle w → BeatsFit w
    → (new : World) × Settles w new × IsSettled new
