-- A replica: a coordinator with its place in the log (ours).
use Rattle.std.specs.Prelude.{ℕ, Option, None}
use Rattle.coord_node.specs.Coordinator.{Coordinator, opening}
use Rattle.coord_node.specs.Nodes.{NodeValue, coordinator_of, node_opening}
use Rattle.coord_replica.specs.declared.leading.Leading.{Leading}

-- What a beginning of the log comes to, the same in every replica that applied it: the coordinator, how many entries it has, the
-- number of the last leadership that began, and the greatest moment.
pub record LogState : Type 0 where
  pub coordinator : Coordinator
  pub applied : ℕ
  pub leadership : ℕ
  pub moment : ℕ

-- before the first entry
abbrev pub log_opening : ℕ → LogState
log_opening salt = record { coordinator = opening salt; applied = 0; leadership = 0; moment = 0 }

-- What it applied; since when it leads under the present leadership, where it does; and the greatest moment that it proposed under it.
pub record ReplicaState : Type 0 where
  pub log : LogState
  pub leading : Option Leading
  pub proposed : ℕ

abbrev pub replica_opening : ℕ → ReplicaState
replica_opening salt = record { log = log_opening salt; leading = None; proposed = 0 }

-- a replica that has come to a state, and doesn't lead
abbrev pub following : LogState → ReplicaState
following s = record { log = s; leading = None; proposed = 0 }

-- ---- a replica's value

-- The node with its groups in their order, and since when each partition is granted; its place in the log; and what it proposes.
pub record ReplicaValue : Type 0 where
  pub node : NodeValue
  pub applied : ℕ
  pub leadership : ℕ
  pub moment : ℕ
  pub leading : Option Leading
  pub proposed : ℕ

abbrev pub value_opening : ℕ → ReplicaValue
value_opening salt = record { node = node_opening salt; applied = 0; leadership = 0; moment = 0; leading = None; proposed = 0 }

abbrev pub log_of : ReplicaValue → LogState
log_of r = record { coordinator = coordinator_of r.node; applied = r.applied; leadership = r.leadership; moment = r.moment }

abbrev pub replica_state : ReplicaValue → ReplicaState
replica_state r = record { log = log_of r; leading = r.leading; proposed = r.proposed }
