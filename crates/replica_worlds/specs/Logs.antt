-- The log of a world over replicas, and the replicas that apply it (ours).
use Rattle.std.specs.Prelude.{◌≡◌, ℕ, List, length, Contains, Option, Some, None, Ok}
use Rattle.std.specs.List.{filter_map}
use Rattle.group_types.specs.Frames.{IsFrame}
use Rattle.coord_node.specs.Coordinator.{Replied}
use Rattle.coord_replica.specs.Applying.{Fate, LogRun, Logged}
use Rattle.coord_replica.specs.Histories as histories
use Rattle.coord_replica.specs.Histories.{Cluster, Given, History, IsAnswerAt, cluster_opening}
use Rattle.coord_replica.specs.Replicas.{LogState, log_opening}
use Rattle.member_core.specs.Settings.{Settings}
use Rattle.world_sim.specs.World.{Reply}
use Rattle.world_sim.specs.Acts.{Outcome}
use Rattle.replica_worlds.specs.ReplicaWorlds.{Brings, Delivers, Does, Goes, ReplicaAct, ReplicaRun, ReplicaWorld, new_replica_world}

-- what an act brings to the log
abbrev pub entry_of : ReplicaAct → Option Logged
entry_of (Does act) = None
entry_of (Delivers k e) = Some (Ok e)
entry_of (Brings k e) = Some (Ok e)
entry_of (Goes at) = Some at

abbrev pub entries_of : List ReplicaAct → List Logged
entries_of acts = filter_map entry_of acts

-- what a world has of its log is what the run over the log comes to
abbrev pub WorldsFollowTheirLog : Type 0
WorldsFollowTheirLog =
    (salt : ℕ) (clients : List Settings) (acts : List ReplicaAct) (outcomes : List Outcome) (s : ReplicaWorld)
    → ReplicaRun (new_replica_world salt clients) acts outcomes s
    → (fates : List Fate) × LogRun (log_opening salt) (entries_of acts) fates s.log

-- each replica that has applied all of a log has the state, and each answer that any replica gave is the one that the run over the log
-- gives at its place
pub record AreReplicasOf (salt : ℕ) (log : List Logged) (state : LogState) (c : Cluster) : Type 0 where
  pub states : (number : ℕ) → (c.replicas number).log.applied ≡ length log → (c.replicas number).log ≡ state
  pub answers : (given : Given) → Contains c.given given → IsAnswerAt (log_opening salt) log given.place given.answer

-- whatever leaders come and go: the replicas of every history over a world's log are those of the world
abbrev pub ReplicasMakeTheWorld : Type 0
ReplicasMakeTheWorld =
    (salt : ℕ) (clients : List Settings) (acts : List ReplicaAct) (outcomes : List Outcome) (s : ReplicaWorld)
    → ReplicaRun (new_replica_world salt clients) acts outcomes s
    → (history : List histories.Act) (c : Cluster) → History (cluster_opening salt) history c → c.log ≡ entries_of acts
    → AreReplicasOf salt (entries_of acts) s.log c

-- ---- the replies

-- a reply is what the run over a log answers at a place
pub record IsAnswered (salt : ℕ) (log : List Logged) (r : Reply) : Type 0 where
  pub place : ℕ
  pub frame : List ℕ
  pub framed : IsFrame r.body frame
  pub answer : IsAnswerAt (log_opening salt) log place (Replied frame)

-- so every reply that was ever sent is: whichever replica sends it, it is the same
abbrev pub RepliesAreTheLogs : Type 0
RepliesAreTheLogs =
    (salt : ℕ) (clients : List Settings) (acts : List ReplicaAct) (outcomes : List Outcome) (s : ReplicaWorld)
    → ReplicaRun (new_replica_world salt clients) acts outcomes s → (r : Reply) → Contains s.replies r → IsAnswered salt (entries_of acts) r
