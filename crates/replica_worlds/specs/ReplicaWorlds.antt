-- The world over replicas: one log, clients, and every message that was ever sent between them (ours). A client's message comes to the
-- coordinator as an entry of the log, and its reply is what the log comes to there, whichever replica gives it. Leaderships come and go.
use Rattle.std.specs.Prelude.{◌≡◌, ℕ, ◌<◌, false, List, [], ◌∷◌, Option, Some, None, Ok, Err}
use Rattle.std.specs.List.{Contains}
use Rattle.std.specs.declared.cmp.Ordering.TheVariants.{Less}
use Rattle.kip_msgs.specs.Values.{RequestHeaderValue, HeartbeatRequestValue, heartbeat_request}
use Rattle.kip_msgs.specs.Spelling.{SpellsRequest}
use Rattle.group_types.specs.declared.stamp.Stamp.{Stamp}
use Rattle.group_types.specs.Stamp.{stamp_cmp}
use Rattle.coord_node.specs.Coordinator.{Answer, Done}
use Rattle.replica_entries.specs.Values.{ContentValue, EntryValue, FrameValue, frame, tick, image, leads}
use Rattle.coord_replica.specs.Applying.{Applies, Fate, Logged, PassedOver, Taken, Takes}
use Rattle.coord_replica.specs.Entries.{stamp_under}
use Rattle.coord_replica.specs.Replicas.{LogState, log_opening}
use Rattle.member_core.specs.Settings.{Settings}
use Rattle.member_core.specs.Client.{Client}
use Rattle.world_sim.specs.World.{World, Request, Reply, Commit, new_world, numbered, with_coordinator}
use Rattle.world_sim.specs.Acts.{Act, Asks, GivesUp, Deliver, Take, Release, Commits, Bring, Clock, Passes, Sees, Outcome, IsRemoved, IsDone, ActStep, Pools, Answers, is_forgotten, no_stamp}

-- what the log comes to, and the rest of a world
pub record ReplicaWorld : Type 0 where
  pub log : LogState
  pub clients : List Client  -- numbered from 1, as each pool is
  pub requests : List Request
  pub replies : List Reply
  pub commits : List Commit

-- As a world: its coordinator is what the log comes to, and its clock is the log's greatest moment.
abbrev pub world_of : ReplicaWorld → World
world_of s =
    record {
      coordinator = s.log.coordinator;
      clock = s.log.moment;
      clients = s.clients;
      requests = s.requests;
      replies = s.replies;
      commits = s.commits;
    }

abbrev pub over_log : LogState → World → ReplicaWorld
over_log log w = record { log = log; clients = w.clients; requests = w.requests; replies = w.replies; commits = w.commits }

-- an empty log, and clients that haven't asked for anything yet
abbrev pub new_replica_world : ℕ → List Settings → ReplicaWorld
new_replica_world salt clients = over_log (log_opening salt) (new_world salt clients)

-- What happens. A client does something by itself; a request, or a commit, comes to the log as its next entry, and is taken; or something
-- else comes to the log: time passes, the topics change, a leadership begins, or what came is passed over.
pub data ReplicaAct : Type 0 where
  Does : Act → ReplicaAct
  Delivers : ℕ → EntryValue → ReplicaAct
  Brings : ℕ → EntryValue → ReplicaAct
  Goes : Logged → ReplicaAct

-- nothing comes to the coordinator
abbrev pub IsClients : Act → Type 0
IsClients (Asks n ask) = Unit {0}
IsClients (GivesUp n) = Unit {0}
IsClients (Deliver k) = ⊥
IsClients (Take j) = Unit {0}
IsClients (Release n p) = Unit {0}
IsClients (Commits n topics) = Unit {0}
IsClients (Bring k) = ⊥
IsClients (Clock moment) = ⊥
IsClients (Passes moment) = ⊥
IsClients (Sees topics) = ⊥

-- The request under a number is the log's next entry, under whatever leadership, connection and number there, and at whatever moment
-- the log takes. As in any world, no join is that names an id which its group doesn't remember.
pub record IsDelivered (s : ReplicaWorld) (k : ℕ) (e : EntryValue) (outcome : Outcome) (t : ReplicaWorld) : Type 0 where
  pub request : Request
  pub is_pooled : numbered s.requests k ≡ Some request
  pub came : FrameValue
  pub is_frame : e.content ≡ frame came
  pub body : came.body ≡ request.body
  pub header : RequestHeaderValue
  pub heartbeat : HeartbeatRequestValue
  pub spells : SpellsRequest (heartbeat_request header heartbeat) request.body
  pub remembered : is_forgotten s.log.coordinator heartbeat ≡ false
  pub answer : Answer
  pub log : LogState
  pub takes : Takes s.log e (Some answer) log
  pub after : World
  pub pools : Pools (with_coordinator (world_of s) log.coordinator) request answer outcome after
  pub becomes : t ≡ over_log log after

-- the commit under a number is
pub record IsBrought (s : ReplicaWorld) (k : ℕ) (e : EntryValue) (outcome : Outcome) (t : ReplicaWorld) : Type 0 where
  pub commit : Commit
  pub is_pooled : numbered s.commits k ≡ Some commit
  pub came : FrameValue
  pub is_frame : e.content ≡ frame came
  pub body : came.body ≡ commit.body
  pub answer : Answer
  pub log : LogState
  pub takes : Takes s.log e (Some answer) log
  pub after : World
  pub answers : Answers (with_coordinator (world_of s) log.coordinator) answer outcome after
  pub becomes : t ≡ over_log log after

-- what an entry shows that no client sent, and that is taken
abbrev pub ShowsTaken : ContentValue → Option Answer → Outcome → Type 0
ShowsTaken (frame f) answer outcome = ⊥
ShowsTaken (tick moment) answer outcome = (removed : ℕ) × (answer ≡ Some (Done removed)) × (outcome ≡ IsRemoved removed)
ShowsTaken (image topics) answer outcome = (answer ≡ Some (Done 0)) × (outcome ≡ IsDone)
ShowsTaken leads answer outcome = (answer ≡ None) × (outcome ≡ IsDone)

abbrev pub ShowsRead : Logged → Option Answer → Outcome → Type 0
ShowsRead (Ok e) answer outcome = ShowsTaken e.content answer outcome
ShowsRead (Err fault) answer outcome = ⊥

-- whatever is passed over shows nothing, also where a client sent it
abbrev pub Shows : Fate → Logged → Outcome → Type 0
Shows (Taken answer) at outcome = ShowsRead at answer outcome
Shows (PassedOver fault) at outcome = outcome ≡ IsDone

pub record GoesOn (s : ReplicaWorld) (at : Logged) (outcome : Outcome) (t : ReplicaWorld) : Type 0 where
  pub fate : Fate
  pub log : LogState
  pub applies : Applies s.log at fate log
  pub shows : Shows fate at outcome
  pub becomes : t ≡ over_log log (with_coordinator (world_of s) log.coordinator)

abbrev pub ReplicaStep : ReplicaWorld → ReplicaAct → Outcome → ReplicaWorld → Type 0
ReplicaStep s (Does act) outcome t = IsClients act × (after : World) × ActStep (world_of s) act outcome after × (t ≡ over_log s.log after)
ReplicaStep s (Delivers k e) outcome t = IsDelivered s k e outcome t
ReplicaStep s (Brings k e) outcome t = IsBrought s k e outcome t
ReplicaStep s (Goes at) outcome t = GoesOn s at outcome t

-- one act after the other
abbrev pub ReplicaRun : ReplicaWorld → List ReplicaAct → List Outcome → ReplicaWorld → Type 0
ReplicaRun s [] [] t = t ≡ s
ReplicaRun s [] (outcome ∷ outcomes) t = ⊥
ReplicaRun s (act ∷ acts) [] t = ⊥
ReplicaRun s (act ∷ acts) (outcome ∷ outcomes) t =
    (middle : ReplicaWorld) × ReplicaStep s act outcome middle × ReplicaRun middle acts outcomes t

-- ---- what is believed of stamps

abbrev pub stamp_in : ℕ → ContentValue → Stamp
stamp_in leadership (frame f) = stamp_under leadership f.connection f.number
stamp_in leadership (tick moment) = no_stamp
stamp_in leadership (image topics) = no_stamp
stamp_in leadership leads = no_stamp

-- the stamp under which an entry came
abbrev pub stamp_of_entry : EntryValue → Stamp
stamp_of_entry e = stamp_in e.leadership e.content

-- A request that came to the log, as this entry.
pub record Came (acts : List ReplicaAct) (requests : List Request) (k : ℕ) (e : EntryValue) (q : Request) : Type 0 where
  pub is_delivered : Contains acts (Delivers k e)
  pub is_pooled : numbered requests k ≡ Some q

-- One request came under one stamp, however often; of one client's requests a later one came under a greater stamp; and no two clients'
-- came under one connection. So it is where a connection is one client's, keeps order and delivers each frame once, and where a client's
-- later connection is accepted later, or under a later leadership.
pub record AreStamped (acts : List ReplicaAct) (requests : List Request) : Type 0 where
  pub one : (k : ℕ) (e f : EntryValue) (q : Request) → Came acts requests k e q → Came acts requests k f q → stamp_of_entry e ≡ stamp_of_entry f
  pub rise : (j k : ℕ) (e f : EntryValue) (q r : Request) → Came acts requests j e q → Came acts requests k f r → q.sender ≡ r.sender → j < k
      → stamp_cmp (stamp_of_entry e) (stamp_of_entry f) ≡ Less
  pub apart : (j k : ℕ) (e f : EntryValue) (q r : Request) → Came acts requests j e q → Came acts requests k f r
      → (stamp_of_entry e).connection ≡ (stamp_of_entry f).connection → q.sender ≡ r.sender
