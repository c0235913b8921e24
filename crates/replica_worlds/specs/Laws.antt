-- What holds of every world over replicas, whatever leaders come and go (ours).
use Rattle.std.specs.Prelude.{◌≡◌, ℕ, ℤ, List, [], ◌∷◌, ◌++◌, Some, IsTrue}
use Rattle.kip_msgs.specs.Values.{CommitReplyValue}
use Rattle.group_types.specs.declared.partition.Partition.{Partition}
use Rattle.group_types.specs.Sets.{has}
use Rattle.replica_entries.specs.Values.{EntryValue}
use Rattle.member_core.specs.Settings.{Settings}
use Rattle.world_sim.specs.World.{Commit, World, new_world, numbered}
use Rattle.world_sim.specs.Acts.{Act, IsAnswered, Outcome, Run}
use Rattle.world_sim.specs.Exclusivity.{HasCode, IsOfTaken, RenewsLawfully}
use Rattle.replica_worlds.specs.ReplicaWorlds.{AreStamped, Brings, ReplicaAct, ReplicaRun, ReplicaStep, ReplicaWorld, new_replica_world, world_of}
use Rattle.replica_worlds.specs.Unstamped.{unstamped}

-- two worlds are the same, but for their coordinators' stamps
pub record AreAlike (v w : World) : Type 0 where
  pub coordinator : unstamped v.coordinator ≡ unstamped w.coordinator
  pub clock : v.clock ≡ w.clock
  pub clients : v.clients ≡ w.clients
  pub requests : v.requests ≡ w.requests
  pub replies : v.replies ≡ w.replies
  pub commits : v.commits ≡ w.commits

-- acts lead from clients that haven't asked for anything to a world that is like this one
pub record IsLedTo (salt : ℕ) (clients : List Settings) (v : World) : Type 0 where
  pub world : World
  pub acts : List Act
  pub outcomes : List Outcome
  pub run : Run (new_world salt clients) acts outcomes world
  pub alike : AreAlike v world

-- so it is in every world over replicas
abbrev pub OverReplicas : (World → Type 0) → Type 0
OverReplicas Holds =
    (salt : ℕ) (clients : List Settings) (acts : List ReplicaAct) (outcomes : List Outcome) (s : ReplicaWorld)
    → ReplicaRun (new_replica_world salt clients) acts outcomes s → AreStamped acts s.requests → Holds (world_of s)

-- whatever leaders come and go, and whatever is lost, repeated or overtaken: a world over replicas is one that acts lead to, but for the
-- numbers of stamps
abbrev pub ReplicaWorldsAreWorlds : Type 0
ReplicaWorldsAreWorlds =
    (salt : ℕ) (clients : List Settings) (acts : List ReplicaAct) (outcomes : List Outcome) (s : ReplicaWorld)
    → ReplicaRun (new_replica_world salt clients) acts outcomes s → AreStamped acts s.requests → IsLedTo salt clients (world_of s)

-- ---- in a step

-- what happens next in a world over replicas
pub record HappensNext (salt : ℕ) (clients : List Settings) (s : ReplicaWorld) (act : ReplicaAct) (outcome : Outcome) (t : ReplicaWorld) : Type 0 where
  pub acts : List ReplicaAct
  pub outcomes : List Outcome
  pub run : ReplicaRun (new_replica_world salt clients) acts outcomes s
  pub step : ReplicaStep s act outcome t
  pub stamped : AreStamped (acts ++ act ∷ []) t.requests

-- where a group's target is renewed, the new one is lawful for the subscriptions and the view of that moment
abbrev pub RenewLawfullyOverReplicas : Type 0
RenewLawfullyOverReplicas =
    (salt : ℕ) (clients : List Settings) (s : ReplicaWorld) (act : ReplicaAct) (outcome : Outcome) (t : ReplicaWorld)
    → HappensNext salt clients s act outcome t → RenewsLawfully (world_of s) (world_of t)

-- a commit that is brought and isn't refused as a whole has all that its maker held in its `since`
abbrev pub BringHeldOverReplicas : Type 0
BringHeldOverReplicas =
    (salt : ℕ) (clients : List Settings) (s : ReplicaWorld) (number : ℕ) (e : EntryValue) (k : Commit) (reply : CommitReplyValue) (t : ReplicaWorld)
    (code : ℤ) (p : Partition)
    → HappensNext salt clients s (Brings number e) (IsAnswered reply) t → numbered s.commits number ≡ Some k
    → HasCode reply code → IsOfTaken code → IsTrue (has k.own p) → IsTrue (has k.since p)
