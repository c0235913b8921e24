-- That the laws aren't empty: what they speak of is there in a world over replicas (ours).
use Rattle.std.specs.Prelude.{◌≡◌, ℕ, List}
use Rattle.member_core.specs.Settings.{Settings}
use Rattle.world_sim.specs.Acts.{Outcome}
use Rattle.world_sim.specs.Examples.{Holder}
use Rattle.replica_worlds.specs.ReplicaWorlds.{AreStamped, ReplicaAct, ReplicaRun, ReplicaWorld, new_replica_world, world_of}

-- two leaderships have begun, and a member holds a partition
pub record SomebodyHoldsOverLeaderships : Type 0 where
  pub salt : ℕ
  pub clients : List Settings
  pub acts : List ReplicaAct
  pub outcomes : List Outcome
  pub world : ReplicaWorld
  pub run : ReplicaRun (new_replica_world salt clients) acts outcomes world
  pub stamped : AreStamped acts world.requests
  pub leaderships : world.log.leadership ≡ 2
  pub holder : Holder (world_of world)
